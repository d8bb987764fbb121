use Rattle.casefile.specs.Decode.{case_in}
use Rattle.casefile.specs.StageRead.{event_at}
use Rattle.conduct.specs.Flags.{time_bid}
use Rattle.conduct.proofs.time.time_bid.Goals as goal

pub returns : goal.returns
unfolding case_in event_at time_bid
returns c = rw (c.event_at-other.ensures, c.event_at-event.ensures)
