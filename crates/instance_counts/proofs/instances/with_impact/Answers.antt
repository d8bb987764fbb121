use Rattle.casefile.specs.StageRead.{event_at}
use Rattle.instance_counts.specs.StageInstances.{with_impact}
use Rattle.instance_counts.proofs.instances.with_impact.Goals as goal

pub returns : goal.returns
unfolding event_at with_impact
returns c = rw c.event_at-event.ensures
