use Rattle.tariff.specs.Comparisons.{withheld_comparisons}
use Rattle.tariff.proofs.comparisons.withheld_comparisons.Goals as goal

pub returns : goal.returns
unfolding withheld_comparisons
returns c = rw (c.comparisons_of.ensures, c.compared-of_group.ensures, c.group_limit.ensures, c.compared-of_share.ensures, c.compared-of_unit.ensures, c.unit_limit.ensures, c.compared-of_capability.ensures)
