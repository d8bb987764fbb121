use Rattle.casefile.specs.StageRead.{event_at}
use Rattle.instance_counts.proofs.instances.period_of.Goals as goal

pub returns : goal.returns
unfolding event_at
returns c = rw c.event_at-event.ensures
