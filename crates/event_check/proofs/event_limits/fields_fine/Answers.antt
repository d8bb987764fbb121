use Rattle.limits.specs.Refusal.{mask_fine, fields_fine}
use Rattle.event_check.proofs.event_limits.fields_fine.Goals as goal

pub returns : goal.returns
unfolding mask_fine fields_fine
returns c = rw c.quantities_fine-quantities.ensures
