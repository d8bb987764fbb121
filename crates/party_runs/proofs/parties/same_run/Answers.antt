use Rattle.casefile.specs.StageRead.{event_at}
use Rattle.party_runs.specs.StageParties.{same_run}
use Rattle.party_runs.proofs.parties.same_run.Goals as goal

pub returns : goal.returns
unfolding event_at same_run
returns c = rw (c.event_at-other.ensures, c.event_at-event.ensures)
