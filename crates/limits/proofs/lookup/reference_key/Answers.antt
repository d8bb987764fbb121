use Rattle.casefile.specs.Lookup.{reference_key}
use Rattle.casefile.specs.StageRead.{reference_at}
use Rattle.limits.proofs.lookup.reference_key.Goals as goal

pub returns : goal.returns
unfolding reference_key reference_at
returns c = rw (c.key_of.ensures, c.reference_at-reference.ensures)
