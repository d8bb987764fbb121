use Rattle.casefile.specs.StageRead.{entry_at}
use Rattle.instance_counts.proofs.instances.entry_period.Goals as goal

pub returns : goal.returns
unfolding entry_at
returns c = rw c.entry_at-entry.ensures
