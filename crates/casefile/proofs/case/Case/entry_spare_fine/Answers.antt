use Rattle.casefile.specs.Decode.{entry_spare_fine}
use Rattle.casefile.proofs.case.Case.entry_spare_fine.Goals as goal

pub returns : goal.returns
unfolding entry_spare_fine
returns c = rw (c.load-spare.ensures, c.entry_record-entry.ensures.0)
