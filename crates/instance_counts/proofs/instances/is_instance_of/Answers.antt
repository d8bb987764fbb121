use Rattle.casefile.specs.StageRead.{event_at}
use Rattle.instance_counts.specs.StageInstances.{instance_of}
use Rattle.instance_counts.proofs.instances.is_instance_of.Goals as goal

pub returns : goal.returns
unfolding event_at instance_of
returns c = rw (c.is_instance-instance.ensures, c.event_at-event.ensures)
