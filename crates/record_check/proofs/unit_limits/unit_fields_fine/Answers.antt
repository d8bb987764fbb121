use mathlib.Core.Path.{refl}
use Rattle.limits.specs.Refusal.{unit_fields_fine}
use Rattle.record_check.proofs.unit_limits.unit_fields_fine.Goals as goal

pub returns : goal.returns
unfolding unit_fields_fine
returns c = refl
