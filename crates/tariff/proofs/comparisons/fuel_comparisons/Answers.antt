use Rattle.tariff.specs.Comparisons.{fuel_comparisons}
use Rattle.tariff.proofs.comparisons.fuel_comparisons.Goals as goal

pub returns : goal.returns
unfolding fuel_comparisons
returns c = rw (c.comparisons_of.ensures, c.no_comparison-3.ensures, c.no_comparison-2.ensures, c.no_comparison.ensures, c.compared.ensures)
