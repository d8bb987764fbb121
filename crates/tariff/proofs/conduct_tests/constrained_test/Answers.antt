use Prim.Native.Nat.{◌*◌, ◌≤◌}
use mathlib.Core.Path.{refl}
use native.Mathlib.Omega.{arith}
use Rattle.binary.proofs.BoundedLaws.{product_bound}
use Rattle.tariff.specs.ConductTests.{constrained_test}
use Rattle.tariff.proofs.conduct_tests.constrained_test.Goals as goal

pub returns : goal.returns
unfolding constrained_test
returns c = refl
