use Rattle.tariff.specs.ConductTests.{unit_limit}
use Rattle.tariff.proofs.conduct_tests.unit_limit.Goals as goal

pub returns : goal.returns
unfolding unit_limit
returns c = rw c.choose.ensures
