use Rattle.tariff.specs.DefaultBidRules.{default_bid}
use Rattle.tariff.proofs.default_bid_rules.default_bid.Goals as goal

pub returns : goal.returns
unfolding default_bid
returns c = rw (c.choose.ensures, c.lesser-low.ensures, c.greater-high.ensures)
