use Rattle.tariff.specs.ConductTests.{withheld_test}
use Rattle.tariff.proofs.conduct_tests.withheld_test.Goals as goal

pub returns : goal.returns
unfolding withheld_test
returns c = rw (c.group_limit-group.ensures, c.unit_limit-unit.ensures)
