use Rattle.tariff.specs.Ranges.{bid_in_range}
use Rattle.tariff.proofs.ranges.bid_in_range.Goals as goal

pub returns : goal.returns
unfolding bid_in_range
returns c = rw (c.choose-2.ensures, c.choose.ensures, c.is_within-signed.ensures)
