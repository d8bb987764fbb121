use Rattle.casefile.specs.StageRead.{event_at}
use Rattle.instance_counts.specs.StageInstances.{instance_at}
use Rattle.instance_counts.proofs.instances.is_instance.Goals as goal

pub returns : goal.returns
unfolding event_at instance_at
returns c = rw (c.with_impact.ensures, c.event_at-event.ensures)
