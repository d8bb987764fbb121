use Rattle.tariff.proofs.PercentLaws.{lower_is}
use Rattle.tariff.proofs.conduct_tests.lower_test.Goals as goal

pub returns : goal.returns
returns c = rw (c.min-lower.ensures, c.product.ensures.0, c.increase-d.ensures, c.positive_part-a.ensures, ← lower_is)
