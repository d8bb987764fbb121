use Prim.Native.Nat.{◌*◌, ◌≤◌}
use native.Mathlib.Omega.{arith}
use Rattle.binary.proofs.BoundedLaws.{product_bound}
use Rattle.tariff.specs.SanctionRules.{withheld_penalty}
use Rattle.tariff.proofs.sanction_rules.withheld_penalty.Goals as goal

pub returns : goal.returns
unfolding withheld_penalty
returns c = rw c.cents.ensures
