-- The tests of a percent in hundredths, as the code has them, are the comparisons of the definitions.
use Prim.Native.Nat.{ℕ, ◌*◌, min}
use mathlib.Core.Bool.{Bool, true, false, ◌&&◌}
use mathlib.Core.Path.{◌≡◌, refl, ap}
use native.Mathlib.Omega.{arith}
use borrow.Author.Tests.{ltb-true, lt-ltb, eqb-true}
use lib.Dec.{ltb, leb, eqb}
use Rattle.binary.specs.Word.{positive_part}
use Rattle.binary.proofs.Implies.{same_test}
use Rattle.tariff.specs.declared.threshold.Threshold.{Threshold}
use Rattle.tariff.specs.Threshold.{threshold_of}
use Rattle.tariff.specs.ConductTests.{exceeds, increase, whole, lower_test, percent_test, minimum_comparison, maximum_test}

pub lower_is : (t : Threshold) (r a : ℕ)
    → (leb t.floor (positive_part 32 a) && ltb (min (t.percent * r) (whole * t.step)) (whole * increase r a)) ≡ lower_test t r a
unfolding lower_test
lower_is t r a = ap (λ (b : Bool). leb t.floor (positive_part 32 a) && b) (same_test _ _ (λ h. omega (arith, ltb-true, lt-ltb)) (λ h. omega (arith, ltb-true, lt-ltb)))

pub percent_is : (t : Threshold) (r d : ℕ) → ltb (t.percent * r) (whole * d) ≡ percent_test t r d
unfolding percent_test
percent_is t r d = same_test _ _ (λ h. omega (arith, ltb-true, lt-ltb)) (λ h. omega (arith, ltb-true, lt-ltb))

-- component 7 asks d, as component 3 does
pub minimum_is : (t : Threshold) (r a : ℕ) → percent_test t r (increase r a) ≡ exceeds (minimum_comparison t r a)
unfolding percent_test increase
minimum_is t r a = same_test _ _ (λ h. omega (arith, ltb-true, lt-ltb)) (λ h. omega (arith, ltb-true, lt-ltb))

pub maximum_is : (r a : ℕ) → ltb (whole * positive_part 32 a) ((threshold_of 8).percent * r) ≡ maximum_test (threshold_of 8) r a
unfolding threshold_of maximum_test
maximum_is r a = same_test _ _ (λ h. omega (arith, ltb-true, lt-ltb)) (λ h. omega (arith, ltb-true, lt-ltb))

-- no other component asks it
pub at_maximum : (k r a : ℕ) → (eqb k 8 && maximum_test (threshold_of 8) r a) ≡ (eqb k 8 && maximum_test (threshold_of k) r a)
at_maximum k r a = pick (eqb k 8) refl
  where
    pick : (b : Bool) → eqb k 8 ≡ b → (b && maximum_test (threshold_of 8) r a) ≡ (b && maximum_test (threshold_of k) r a)
    pick true e = rw (eqb-true k 8 e)
    pick false e = refl
