use Rattle.tariff.specs.ConductTests.{bid_test}
use Rattle.tariff.proofs.PercentLaws.{minimum_is, at_maximum}
use Rattle.tariff.proofs.conduct_tests.bid_test.Goals as goal

pub returns : goal.returns
unfolding bid_test
returns c = rw (c.maximum_test-maximum.ensures, c.time_test-time.ensures, c.percent_test-percent.ensures, c.constrained_test-constrained.ensures, c.lower_test-lower.ensures, c.increase-d.ensures, c.of-t.ensures, at_maximum, ← minimum_is)
