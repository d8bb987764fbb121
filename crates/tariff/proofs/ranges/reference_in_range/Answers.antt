use Rattle.tariff.specs.Ranges.{reference_in_range}
use Rattle.tariff.proofs.ranges.reference_in_range.Goals as goal

pub returns : goal.returns
unfolding reference_in_range
returns c = rw c.choose.ensures
