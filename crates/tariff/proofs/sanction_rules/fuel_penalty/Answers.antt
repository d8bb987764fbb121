use borrow.Author.Tests.{lt-ltb, le-ltb}
use native.Mathlib.Omega.{arith}
use Rattle.tariff.specs.SanctionRules.{least_charge, fuel_penalty}
use Rattle.tariff.proofs.sanction_rules.fuel_penalty.Goals as goal

pub returns-then-x-lt-LEAST_CHARGE : goal.returns-then-x-lt-LEAST_CHARGE
unfolding fuel_penalty
returns-then-x-lt-LEAST_CHARGE c = rw (← c.fuel_charge-x.ensures.0, lt-ltb c.fuel_charge-x.result least_charge (omega (arith, c.if-x-lt-LEAST_CHARGE.true)))

pub returns : goal.returns
unfolding fuel_penalty
returns c = rw (c.cents.ensures, ← c.fuel_charge-x.ensures.0, le-ltb c.fuel_charge-x.result least_charge (omega (arith, c.if-x-lt-LEAST_CHARGE.false)))
