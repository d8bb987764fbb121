use mathlib.Core.Path.{refl}
use Rattle.calls.specs.OutOfRange.{bad_unit}
use Rattle.calls.proofs.out_of_range.bad_unit.Goals as goal

pub returns : goal.returns
unfolding bad_unit
returns c = refl
