use Rattle.tariff.proofs.PercentLaws.{percent_is}
use Rattle.tariff.proofs.conduct_tests.percent_test.Goals as goal

pub returns : goal.returns
returns c = rw (c.product.ensures.0, ← percent_is)
