use Rattle.tariff.specs.ConductTests.{increase}
use Rattle.tariff.proofs.conduct_tests.increase.Goals as goal

pub returns : goal.returns
unfolding increase
returns c = rw (c.saturating_sub.ensures, c.positive_part.ensures)
