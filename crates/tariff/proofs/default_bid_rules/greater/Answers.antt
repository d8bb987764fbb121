use Rattle.tariff.specs.DefaultBidRules.{greater}
use Rattle.tariff.proofs.default_bid_rules.greater.Goals as goal

pub returns : goal.returns
unfolding greater
returns c = rw (c.choose.ensures, c.at_most.ensures)
