use Rattle.tariff.specs.DefaultBidRules.{in_force}
use Rattle.tariff.proofs.default_bid_rules.in_force.Goals as goal

pub returns : goal.returns
unfolding in_force
returns c = rw (c.choose.ensures, c.default_bid.ensures)
