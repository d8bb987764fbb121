use Rattle.casefile.specs.Decode.{reference_spare_fine}
use Rattle.casefile.proofs.references.reference_spare_fine.Goals as goal

pub returns : goal.returns
unfolding reference_spare_fine
returns c = rw (c.load-spare.ensures, c.reference_record-reference.ensures.0)
