use Prim.Native.Nat.{◌*◌}
use mathlib.Core.Path.{refl}
use native.Mathlib.Nat.{div-le_self}
use native.Mathlib.Omega.{arith}
use Rattle.tariff.specs.ConductTests.{hour_tenths, year_share}
use Rattle.line.specs.OpenLine.{constrained_line}
use Rattle.line.proofs.open_line.constrained_line.Goals as goal

pub overflow_add-result : goal.overflow_add-result
unfolding constrained_line
overflow_add-result c = omega (arith, div-le_self (year_share * c.args.average_price) (hour_tenths * c.args.constrained_hours))

pub returns : goal.returns
unfolding constrained_line
returns c = refl
