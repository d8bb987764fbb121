-- The tests, windows and penalties on plain numbers are monotone: a worse a, a larger sum, a longer window or a larger multiplier
-- keeps a flag and lowers no figure.
use Prim.Native.Nat.{ℕ, ◌+◌, ◌-◌, ◌*◌, ◌/◌, ◌≤◌, ◌<◌}
use mathlib.Core.Bool.{Bool, true, false, cond, ◌&&◌}
use mathlib.Core.Logic.{◌≢◌}
use mathlib.Core.Path.{◌≡◌, refl, sym, ◌∙◌, ap}
use native.Mathlib.Nat.{mul-le-mul, mul-le-mul_left, mul-le-mul_right, mul-add, add-sub_of_le, div-mul-le_self, le-div_iff_mul-le}
use native.Mathlib.Omega.{arith}
use borrow.Author.Tests.{ltb-true, ltb-false}
use lib.Dec.{T, ltb, leb, eqb, ltb→lt, lt→ltb, leb→le, eqb→eq}
use Rattle.binary.specs.Word.{positive_part}
use Rattle.binary.proofs.Implies.{◌⇒◌, mono, leb_mono, and_given, or_mono, and_right}
use Rattle.tariff.specs.Threshold.{threshold_of}
use Rattle.tariff.specs.declared.threshold.Threshold.{Threshold}
use Rattle.tariff.specs.ConductTests.{exceeds, increase, lower_test, constrained_test, percent_test, time_test, minimum_comparison, maximum_test, bid_test, withheld_test, dispatch_test}
use Rattle.tariff.specs.SanctionRules.{cents, period_counts, withheld_penalty, dispatch_penalty, fuel_charge, fuel_penalty}

-- ---- conduct tests

pub increase_mono : (r a a' : ℕ) → positive_part 32 a ≤ positive_part 32 a' → increase r a ≤ increase r a'
unfolding increase
increase_mono r a a' h = omega arith

module _ (t : Threshold) (r a a' : ℕ) (h : positive_part 32 a ≤ positive_part 32 a') where
  lower_mono : lower_test t r a ⇒ lower_test t r a'
  unfolding lower_test
  lower_mono = search (mono, increase_mono)

  constrained_mono : (market : ℕ) (tight : Bool) (average_price H : ℕ)
      → constrained_test (increase r a) market tight average_price H ⇒ constrained_test (increase r a') market tight average_price H
  unfolding constrained_test
  constrained_mono market tight average_price H = search (mono, increase_mono) depth 8

  percent_mono : percent_test t r (increase r a) ⇒ percent_test t r (increase r a')
  unfolding percent_test
  percent_mono = search (mono, increase_mono)

  time_mono : (total total' : ℕ) → total ≤ total' → time_test t (increase r a) total ⇒ time_test t (increase r a') total'
  unfolding time_test
  time_mono total total' g = search (mono, increase_mono)

  minimum_mono : exceeds (minimum_comparison t r a) ⇒ exceeds (minimum_comparison t r a')
  minimum_mono = search mono

maximum_mono : (k r a a' : ℕ) → k ≡ 8 → positive_part 32 a' ≤ positive_part 32 a → maximum_test (threshold_of k) r a ⇒ maximum_test (threshold_of k) r a'
unfolding maximum_test threshold_of
maximum_mono k r a a' e f = rw e (record { give = λ s. omega (arith, ltb→lt, lt→ltb) })

-- a bid that moved further to the side that its test looks at
pub bid_mono : (k r a a' market : ℕ) (tight : Bool) (average_price H total total' : ℕ) → total ≤ total'
    → (k ≢ 8 → positive_part 32 a ≤ positive_part 32 a')
    → (k ≡ 8 → positive_part 32 a' ≤ positive_part 32 a)
    → bid_test k r a market tight average_price H total ⇒ bid_test k r a' market tight average_price H total'
unfolding bid_test
bid_mono k r a a' market tight average_price H total total' g up down =
    let t = threshold_of k in
    or_mono
    (or_mono
    (or_mono
    (or_mono
    (or_mono
    (and_given (leb k 1)
    (λ s. or_mono (lower_mono t r a a' (up (omega (arith, leb→le))))
    (constrained_mono t r a a' (up (omega (arith, leb→le))) market tight average_price H)))
    (and_given (eqb k 2) (λ s. lower_mono t r a a' (up (omega (arith, eqb→eq))))))
    (and_given (eqb k 3) (λ s. percent_mono t r a a' (up (omega (arith, eqb→eq))))))
    (and_given (leb 4 k && leb k 6)
    (λ s. let n : k ≤ 6 = leb→le k 6 (search and_right) in time_mono t r a a' (up (omega arith)) total total' g)))
    (and_given (eqb k 7) (λ s. minimum_mono t r a a' (up (omega (arith, eqb→eq))))))
    (and_given (eqb k 8) (λ s. let e = eqb→eq k 8 s in maximum_mono k r a a' e (down e)))

pub withheld_mono : (a a' capability S S' G : ℕ) (tight : Bool) → a ≤ a' → S ≤ S'
    → withheld_test a capability S G tight ⇒ withheld_test a' capability S' G tight
unfolding withheld_test
withheld_mono a a' capability S S' G tight f g = search mono

pub dispatch_mono : (a a' rate S S' : ℕ) (tight : Bool) → a ≤ a' → S ≤ S'
    → dispatch_test a rate S tight ⇒ dispatch_test a' rate S' tight
unfolding dispatch_test
dispatch_mono a a' rate S S' tight f g = search mono

-- ---- multipliers and penalties

pub cents_mono : (parts x y : ℕ) → 0 < parts → x ≤ y → cents parts x ≤ cents parts y
unfolding cents
cents_mono parts x y p h =
    (le-div_iff_mul-le p).1 (omega (arith, div-mul-le_self (x + parts / 2) parts))

pub withheld_penalty_mono : (m m' x x' : ℕ) → m ≤ m' → x ≤ x' → withheld_penalty m x ≤ withheld_penalty m' x'
unfolding withheld_penalty
withheld_penalty_mono m m' x x' f g = cents_mono 20 _ _ (omega arith) (mul-le-mul f g)

pub dispatch_penalty_mono : (x x' : ℕ) → x ≤ x' → dispatch_penalty x ≤ dispatch_penalty x'
unfolding dispatch_penalty
dispatch_penalty_mono x x' f = cents_mono 2 _ _ (omega arith) (mul-le-mul_left 3 f)

-- X is not smaller under a larger M where E is 0 or more
charge_mono : (M M' gain loss T : ℕ) → M ≤ M' → loss ≤ gain → fuel_charge M gain loss T ≤ fuel_charge M' gain loss T
unfolding fuel_charge
charge_mono M M' gain loss T f g =
    let E : ℕ = gain - loss in
    let s : (N : ℕ) → N * gain ≡ N * loss + N * E = λ N. ap (λ (x : ℕ). N * x) (sym (add-sub_of_le g)) ∙ mul-add N loss E in
    let h : M * E ≤ M' * E = mul-le-mul_right E f in
    omega (arith, s M, s M')

pub fuel_penalty_mono : (M M' gain loss T : ℕ) → M ≤ M' → loss ≤ gain → fuel_penalty M gain loss T ≤ fuel_penalty M' gain loss T
unfolding fuel_penalty
fuel_penalty_mono M M' gain loss T f g =
    go (fuel_charge M gain loss T) (fuel_charge M' gain loss T) (charge_mono M M' gain loss T f g)
    (ltb (fuel_charge M gain loss T) 10000000) (ltb (fuel_charge M' gain loss T) 10000000) refl refl
  where
    go : (x y : ℕ) → x ≤ y → (s s' : Bool) → ltb x 10000000 ≡ s → ltb y 10000000 ≡ s'
        → cond s 0 (cents 20 x) ≤ cond s' 0 (cents 20 y)
    go x y h true s' p q = omega arith
    go x y h false true p q = let u = ltb-false x 10000000 p in let v = ltb-true y 10000000 q in omega arith
    go x y h false false p q = cents_mono 20 x y (omega arith) h

-- ---- windows

-- a period in the shorter window is in the longer one
pub period_wider : {k k' : ℕ} → k ≤ k' → (p q : ℕ) → period_counts k p q ⇒ period_counts k' p q
unfolding period_counts
period_wider f p q = and_given (leb q p) (λ _. leb_mono p (omega arith))
