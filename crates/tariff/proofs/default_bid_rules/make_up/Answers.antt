use Rattle.tariff.specs.DefaultBidRules.{make_up}
use Rattle.tariff.proofs.default_bid_rules.make_up.Goals as goal

pub returns : goal.returns
unfolding make_up
returns c = rw (c.choose.ensures, c.cents.ensures)
