use Rattle.tariff.specs.Threshold.{threshold_of}
use Rattle.tariff.proofs.PercentLaws.{maximum_is}
use Rattle.tariff.proofs.conduct_tests.maximum_test.Goals as goal

pub returns : goal.returns
unfolding threshold_of
returns c = rw (c.product.ensures.0, c.positive_part-a.ensures, ← maximum_is)
