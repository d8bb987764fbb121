use Rattle.tariff.specs.DefaultBidRules.{at_most}
use Rattle.tariff.proofs.default_bid_rules.at_most.Goals as goal

pub returns : goal.returns
unfolding at_most
returns c = rw c.positive_part.ensures
