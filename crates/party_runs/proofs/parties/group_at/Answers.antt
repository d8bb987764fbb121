use Rattle.casefile.specs.StageRead.{unit_at}
use Rattle.party_runs.proofs.parties.group_at.Goals as goal

pub returns : goal.returns
unfolding unit_at
returns c = rw c.unit_at.ensures
