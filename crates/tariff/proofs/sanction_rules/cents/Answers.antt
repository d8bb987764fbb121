use mathlib.Core.Path.{refl}
use Rattle.tariff.specs.SanctionRules.{cents}
use Rattle.tariff.proofs.sanction_rules.cents.Goals as goal

pub returns : goal.returns
unfolding cents
returns c = refl
