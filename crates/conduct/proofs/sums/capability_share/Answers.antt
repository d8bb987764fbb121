use Rattle.casefile.specs.StageRead.{unit_at}
use Rattle.conduct.specs.StageFlags.{capability_share}
use Rattle.conduct.proofs.sums.capability_share.Goals as goal

pub returns : goal.returns
unfolding unit_at capability_share
returns c = rw (c.choose.ensures, c.unit_at-unit.ensures)
