use Rattle.tariff.specs.Comparisons.{bid_comparisons}
use Rattle.tariff.proofs.comparisons.bid_comparisons.Goals as goal

pub returns : goal.returns
unfolding bid_comparisons
returns c = rw (c.comparisons_of.ensures, c.no_comparison-2.ensures, c.no_comparison.ensures, c.second_bid_comparison-second.ensures, c.increase-d.ensures, c.first_bid_comparison-first.ensures)
