use Rattle.tariff.specs.Threshold.{threshold_of}
use Rattle.tariff.proofs.comparisons.maximum_comparison.Goals as goal

pub returns : goal.returns
unfolding threshold_of
returns c = rw (c.compared.ensures, c.positive_part-a.ensures)
