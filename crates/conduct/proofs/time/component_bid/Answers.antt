use Rattle.casefile.specs.Decode.{case_in}
use Rattle.casefile.specs.StageRead.{event_at}
use Rattle.conduct.specs.StageTime.{component_bid}
use Rattle.conduct.proofs.time.component_bid.Goals as goal

pub returns : goal.returns
unfolding case_in event_at component_bid
returns c = rw (c.time_bid.ensures, c.event_at-event.ensures)
