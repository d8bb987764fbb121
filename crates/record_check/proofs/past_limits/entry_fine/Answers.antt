use Rattle.casefile.specs.StageRead.{entry_at}
use Rattle.limits.specs.Refusal.{entry_fine, violation_fine}
use Rattle.record_check.proofs.past_limits.entry_fine.Goals as goal

pub returns : goal.returns
unfolding entry_at entry_fine violation_fine
returns c = rw (c.entry_spare_fine-spare.ensures, c.entry_at-entry.ensures)
