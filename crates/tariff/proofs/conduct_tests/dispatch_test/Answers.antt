use Rattle.tariff.specs.ConductTests.{dispatch_test}
use Rattle.tariff.proofs.conduct_tests.dispatch_test.Goals as goal

pub returns : goal.returns
unfolding dispatch_test
returns c = rw (c.group_limit-group.ensures, c.unit_limit-unit.ensures)
