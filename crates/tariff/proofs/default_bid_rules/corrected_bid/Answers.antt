use Rattle.tariff.specs.DefaultBidRules.{corrected_bid}
use Rattle.tariff.proofs.default_bid_rules.corrected_bid.Goals as goal

pub returns : goal.returns
unfolding corrected_bid
returns c = rw (c.choose.ensures, c.restores.ensures, c.default_bid-kept.ensures, c.choose-restored.ensures, c.lesser-low.ensures)
