use mathlib.Core.Path.{refl}
use Rattle.line.specs.OpenLine.{time_line}
use Rattle.line.proofs.open_line.time_line.Goals as goal

pub returns : goal.returns
unfolding time_line
returns c = refl
