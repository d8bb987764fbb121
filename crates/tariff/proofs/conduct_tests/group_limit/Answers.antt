use Rattle.tariff.specs.ConductTests.{group_limit}
use Rattle.tariff.proofs.conduct_tests.group_limit.Goals as goal

pub returns : goal.returns
unfolding group_limit
returns c = rw c.choose.ensures
