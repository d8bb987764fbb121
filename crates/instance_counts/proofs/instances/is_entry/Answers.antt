use Rattle.casefile.specs.StageRead.{entry_at}
use Rattle.instance_counts.specs.StageInstances.{entry_of}
use Rattle.instance_counts.proofs.instances.is_entry.Goals as goal

pub returns : goal.returns
unfolding entry_at entry_of
returns c = rw c.entry_at-entry.ensures
