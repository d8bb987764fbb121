use Rattle.tariff.specs.SanctionRules.{dispatch_penalty}
use Rattle.tariff.proofs.sanction_rules.dispatch_penalty.Goals as goal

pub returns : goal.returns
unfolding dispatch_penalty
returns c = rw c.cents.ensures
