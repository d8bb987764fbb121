use Rattle.limits.specs.Refusal.{reference_fields_fine}
use Rattle.record_check.proofs.reference_limits.reference_fields_fine.Goals as goal

pub returns : goal.returns
unfolding reference_fields_fine
returns c = rw c.reference_in_range.ensures
