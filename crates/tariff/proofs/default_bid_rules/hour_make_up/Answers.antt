use Rattle.tariff.specs.DefaultBidRules.{hour_make_up}
use Rattle.tariff.proofs.default_bid_rules.hour_make_up.Goals as goal

pub returns : goal.returns
unfolding hour_make_up
returns c = (rw (c.product.ensures.0, c.excess.ensures, c.lesser-low.ensures), c.product.ensures.1)
