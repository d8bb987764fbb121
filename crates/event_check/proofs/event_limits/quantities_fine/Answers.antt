use Rattle.limits.specs.Refusal.{mask_fine, quantities_fine}
use Rattle.event_check.proofs.event_limits.quantities_fine.Goals as goal

pub returns : goal.returns
unfolding mask_fine quantities_fine
returns c = rw (c.is_within-congestion.ensures, c.is_within-guarantee.ensures)
