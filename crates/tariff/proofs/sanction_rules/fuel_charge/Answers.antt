use Prim.Native.Nat.{◌*◌, ◌≤◌}
use native.Mathlib.Omega.{arith}
use Rattle.binary.proofs.BoundedLaws.{product_bound}
use Rattle.tariff.specs.SanctionRules.{fuel_charge}
use Rattle.tariff.proofs.sanction_rules.fuel_charge.Goals as goal

up : (c : goal.Start) → c.args.m * c.args.gain ≤ 3 * 1000000000000000000
up c = product_bound _ _ 3 1000000000000000000 (omega arith) (omega arith)

down : (c : goal.Start) → c.args.m * c.args.loss ≤ 3 * 1000000000000000000
down c = product_bound _ _ 3 1000000000000000000 (omega arith) (omega arith)

pub overflow_mul-m : goal.overflow_mul-m
unfolding fuel_charge
overflow_mul-m c = omega (arith, up c)

pub overflow_add-m : goal.overflow_add-m
unfolding fuel_charge
overflow_add-m c = omega (arith, up c)

pub overflow_mul-m-2 : goal.overflow_mul-m-2
unfolding fuel_charge
overflow_mul-m-2 c = omega (arith, down c)

pub returns : goal.returns
unfolding fuel_charge
returns c = (c.saturating_sub.ensures, omega (arith, c.saturating_sub.ensures, up c.before))
