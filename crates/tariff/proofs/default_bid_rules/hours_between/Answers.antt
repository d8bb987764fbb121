use Rattle.std.proofs.Common.{rules}
use Rattle.tariff.specs.DefaultBidRules.{between}
use Rattle.tariff.proofs.default_bid_rules.hours_between.Goals as goal

pub returns : goal.returns
unfolding between
returns c = c.mask_to.ensures.value (between c.args.first c.args.end) (λ h r l p. search rules)
