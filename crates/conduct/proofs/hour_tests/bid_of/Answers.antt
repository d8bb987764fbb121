use Rattle.casefile.specs.StageRead.{unit_at, event_at}
use Rattle.conduct.specs.StageMasks.{bid_of}
use Rattle.conduct.proofs.hour_tests.bid_of.Goals as goal

pub returns : goal.returns
unfolding unit_at event_at bid_of
returns c = rw (c.unit_at-unit.ensures, c.event_at-event.ensures)
