use mathlib.Core.Path.{refl}
use Rattle.tariff.specs.DefaultBidRules.{restores}
use Rattle.tariff.proofs.default_bid_rules.restores.Goals as goal

pub returns : goal.returns
unfolding restores
returns c = refl
