use Rattle.casefile.specs.Decode.{unit_spare_fine}
use Rattle.casefile.proofs.case.Case.unit_spare_fine.Goals as goal

pub returns : goal.returns
unfolding unit_spare_fine
returns c = rw (c.load-last.ensures, c.load-before_capability.ensures, c.load-after_area.ensures, c.unit_record-unit.ensures.0)
