use Rattle.casefile.specs.StageRead.{unit_at}
use Rattle.casefile.proofs.case.Case.unit_number.Goals as goal

pub returns : goal.returns
unfolding unit_at
returns c = rw c.unit_at-unit.ensures
