use Rattle.tariff.specs.DefaultBidRules.{lesser}
use Rattle.tariff.proofs.default_bid_rules.lesser.Goals as goal

pub returns : goal.returns
unfolding lesser
returns c = rw (c.choose.ensures, c.at_most.ensures)
