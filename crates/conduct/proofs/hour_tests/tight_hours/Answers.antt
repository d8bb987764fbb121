use Rattle.casefile.specs.StageRead.{unit_at, event_at}
use Rattle.conduct.specs.StageMasks.{tight_hours}
use Rattle.conduct.proofs.hour_tests.tight_hours.Goals as goal

pub returns : goal.returns
unfolding unit_at event_at tight_hours
returns c = rw (c.choose.ensures, c.unit_at-unit.ensures, c.event_at-event.ensures)
