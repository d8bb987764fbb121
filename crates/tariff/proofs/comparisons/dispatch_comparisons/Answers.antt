use Rattle.tariff.specs.Comparisons.{dispatch_comparisons}
use Rattle.tariff.proofs.comparisons.dispatch_comparisons.Goals as goal

pub returns : goal.returns
unfolding dispatch_comparisons
returns c = rw (c.comparisons_of.ensures, c.no_comparison.ensures, c.compared-of_group.ensures, c.group_limit.ensures, c.compared-of_unit.ensures, c.unit_limit.ensures, c.compared-of_rate.ensures)
