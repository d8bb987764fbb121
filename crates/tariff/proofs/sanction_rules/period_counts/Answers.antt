use mathlib.Core.Path.{refl}
use Rattle.tariff.specs.SanctionRules.{period_counts}
use Rattle.tariff.proofs.sanction_rules.period_counts.Goals as goal

pub returns : goal.returns
unfolding period_counts
returns c = refl
