-- A bid, one below 0 taken as 0, fails its conduct test exactly where it crosses the line, for every word: no range is asked.
use Prim.Native.Nat.{ℕ, zero, suc, ◌+◌, ◌-◌, ◌*◌, ◌/◌, ◌≤◌, ◌<◌, min, max}
use mathlib.Core.Bool.{Bool, true, false, cond, ◌&&◌, ◌||◌, or-false}
use mathlib.Core.Path.{◌≡◌, refl, sym, ap}
use native.Mathlib.Nat.{div-lt_iff_lt-mul}
use native.Mathlib.Omega.{arith}
use borrow.Author.Tests.{ltb-true, ltb-false, lt-ltb, leb-true, le-leb}
use lib.Dec.{ltb, leb, eqb}
use Rattle.binary.specs.Word.{positive_part}
use Rattle.binary.proofs.Implies.{same_test, and_l, and_r}
use Rattle.tariff.specs.declared.threshold.Threshold.{Threshold}
use Rattle.tariff.specs.Threshold.{threshold_of}
use Rattle.tariff.specs.ConductTests.{exceeds, increase, whole, percent_of, lower_test, hour_tenths, year_share, constrained_test, percent_test, time_test, total_comparison, minimum_comparison, maximum_test, bid_test}
use Rattle.line.specs.OpenLine.{lower_line, clause_asked, constrained_line, energy_line, percent_line, time_line, maximum_line, is_time, over_sum, open_line}

-- two comparisons that say the same
pub same_ltb : (x y x' y' : ℕ) → (x < y → x' < y') → (x' < y' → x < y) → ltb x y ≡ ltb x' y'
same_ltb x y x' y' f g =
    same_test _ _ (λ e. lt-ltb x' y' (f (ltb-true x y e))) (λ e. lt-ltb x y (g (ltb-true x' y' e)))

-- ---- each test is a comparison with its line

lower_crosses : (t : Threshold) (r a : ℕ) → 1 ≤ t.floor → lower_test t r a ≡ ltb (lower_line t r) (positive_part 32 a)
unfolding lower_test lower_line increase
lower_crosses t r a h = go t.floor (positive_part 32 a) (min (percent_of t r) t.step) h
  where
    go : (f A m : ℕ) → 1 ≤ f → (leb f A && ltb m (A - r)) ≡ ltb (max (f - 1) (r + m)) A
    go f A m h =
        same_test (leb f A && ltb m (A - r)) (ltb (max (f - 1) (r + m)) A)
        (λ e.
        let p = leb-true f A (and_l (leb f A) (ltb m (A - r)) e) in
        let q = ltb-true m (A - r) (and_r (leb f A) (ltb m (A - r)) e) in
        lt-ltb (max (f - 1) (r + m)) A (omega arith))
        (λ e.
        let p = ltb-true (max (f - 1) (r + m)) A e in
        rw (le-leb f A (omega arith)) (lt-ltb m (A - r) (omega arith)))

clause_crosses : (r A p H : ℕ) → 1 ≤ H → ltb (year_share * p) (hour_tenths * ((A - r) * H)) ≡ ltb (constrained_line r p H) A
unfolding constrained_line
clause_crosses r A p H h =
    let k : 0 < hour_tenths * H = omega arith in
    let e : (A - r) * (hour_tenths * H) ≡ hour_tenths * ((A - r) * H) = omega arith in
    same_ltb (year_share * p) (hour_tenths * ((A - r) * H)) (constrained_line r p H) A
    (λ l. let q : year_share * p / (hour_tenths * H) < A - r = (div-lt_iff_lt-mul k).1 (omega (arith, e)) in omega arith)
    (λ l. let q : year_share * p < (A - r) * (hour_tenths * H) = (div-lt_iff_lt-mul k).0 (omega arith) in omega (arith, e))

-- where the clause is asked H can be divided by
pub clause_hours : (market : ℕ) (tight : Bool) (H : ℕ) → clause_asked market tight H ≡ true → 1 ≤ H
unfolding clause_asked
clause_hours market tight H e = leb-true 1 H (and_r (eqb market 1 && tight) (leb 1 H) e)

-- a number above one of two is above the lower
pub above_lower : (l k A : ℕ) → (ltb l A || ltb k A) ≡ ltb (min l k) A
above_lower l k A = go (ltb l A) refl
  where
    go : (b : Bool) → ltb l A ≡ b → (b || ltb k A) ≡ ltb (min l k) A
    go true e = sym (lt-ltb (min l k) A (let q = ltb-true l A e in omega arith))
    go false e = let q = ltb-false l A e in same_ltb k A (min l k) A (λ s. omega arith) (λ s. omega arith)

energy_crosses : (t : Threshold) (r a market : ℕ) (tight : Bool) (p H : ℕ) → 1 ≤ t.floor
    → (lower_test t r a || constrained_test (increase r a) market tight p H) ≡ ltb (energy_line t r market tight p H) (positive_part 32 a)
unfolding constrained_test increase energy_line clause_asked
energy_crosses t r a market tight p H f =
    rw (lower_crosses t r a f) (go (lower_line t r) (positive_part 32 a) (clause_asked market tight H) refl)
  where
    go : (l A : ℕ) (b : Bool) → clause_asked market tight H ≡ b
        → (ltb l A || (b && ltb (year_share * p) (hour_tenths * ((A - r) * H)))) ≡ ltb (cond b (min l (constrained_line r p H)) l) A
    go l A true e = rw (clause_crosses r A p H (clause_hours market tight H e)) (above_lower l (constrained_line r p H) A)
    go l A false e = or-false (ltb l A)

percent_crosses : (t : Threshold) (r a : ℕ) → percent_test t r (increase r a) ≡ ltb (percent_line t r) (positive_part 32 a)
unfolding percent_test percent_line increase
percent_crosses t r a = go (positive_part 32 a) (percent_of t r)
  where
    go : (A m : ℕ) → ltb m (A - r) ≡ ltb (r + m) A
    go A m = same_ltb m (A - r) (r + m) A (λ l. omega arith) (λ l. omega arith)

minimum_crosses : (t : Threshold) (r a : ℕ) → exceeds (minimum_comparison t r a) ≡ ltb (percent_line t r) (positive_part 32 a)
unfolding percent_line
minimum_crosses t r a = refl

maximum_crosses : (t : Threshold) (r a : ℕ) → 1 ≤ t.percent → maximum_test t r a ≡ ltb (positive_part 32 a) (maximum_line t r)
unfolding maximum_test maximum_line
maximum_crosses t r a h = go (positive_part 32 a) t.percent h
  where
    go : (A m : ℕ) → 1 ≤ m → ltb (whole * A / m) r ≡ ltb A ((m * r + (whole - 1)) / whole)
    go A m h =
        let e : r * m ≡ m * r = omega arith in
        same_ltb (whole * A / m) r A ((m * r + (whole - 1)) / whole)
        (λ l. let q : whole * A < r * m = (div-lt_iff_lt-mul h).0 l in omega (arith, e))
        (λ l. (div-lt_iff_lt-mul h).1 (omega (arith, e)))

time_crosses : (t : Threshold) (r a total : ℕ)
    → time_test t (increase r a) total ≡ (ltb (time_line t r) (positive_part 32 a) || exceeds (total_comparison (increase r a) total))
unfolding time_test time_line increase
time_crosses t r a total = ap (λ (b : Bool). b || exceeds (total_comparison (positive_part 32 a - r) total)) (go (positive_part 32 a))
  where
    go : (A : ℕ) → ltb t.step (A - r) ≡ ltb (r + t.step) A
    go A = same_ltb t.step (A - r) (r + t.step) A (λ l. omega arith) (λ l. omega arith)

-- ---- the test of a component

-- component 8 fails below its line; the others above it, and times by their sum
unfoldable pub crosses : (component r a l total : ℕ) → Bool
crosses component r a l total =
    cond (eqb component 8) (ltb (positive_part 32 a) l) (ltb l (positive_part 32 a) || over_sum component r a total)

-- nine goals that compute, of one about every component
pub by_component : (P : ℕ → Type 0) → P 0 → P 1 → P 2 → P 3 → P 4 → P 5 → P 6 → P 7 → P 8 → (k : ℕ) → k ≤ 8 → P k
by_component P p0 p1 p2 p3 p4 p5 p6 p7 p8 zero l = p0
by_component P p0 p1 p2 p3 p4 p5 p6 p7 p8 (suc zero) l = p1
by_component P p0 p1 p2 p3 p4 p5 p6 p7 p8 (suc (suc zero)) l = p2
by_component P p0 p1 p2 p3 p4 p5 p6 p7 p8 (suc (suc (suc zero))) l = p3
by_component P p0 p1 p2 p3 p4 p5 p6 p7 p8 (suc (suc (suc (suc zero)))) l = p4
by_component P p0 p1 p2 p3 p4 p5 p6 p7 p8 (suc (suc (suc (suc (suc zero))))) l = p5
by_component P p0 p1 p2 p3 p4 p5 p6 p7 p8 (suc (suc (suc (suc (suc (suc zero)))))) l = p6
by_component P p0 p1 p2 p3 p4 p5 p6 p7 p8 (suc (suc (suc (suc (suc (suc (suc zero))))))) l = p7
by_component P p0 p1 p2 p3 p4 p5 p6 p7 p8 (suc (suc (suc (suc (suc (suc (suc (suc zero)))))))) l = p8
by_component P p0 p1 p2 p3 p4 p5 p6 p7 p8 (suc (suc (suc (suc (suc (suc (suc (suc (suc k))))))))) l = absurd (omega arith)

module _ (r a market : ℕ) (tight : Bool) (p H total : ℕ) where
  abbrev Crosses : ℕ → Type 0
  Crosses k = bid_test k r a market tight p H total ≡ crosses k r a (open_line k r market tight p H) total

  pub bid_crosses : (k : ℕ) → k ≤ 8 → Crosses k
  unfolding bid_test crosses open_line is_time over_sum threshold_of
  bid_crosses =
      by_component Crosses
      (simp or-false (energy_crosses (threshold_of 0) r a market tight p H (omega arith)))
      (simp or-false (energy_crosses (threshold_of 1) r a market tight p H (omega arith)))
      (simp or-false (lower_crosses (threshold_of 2) r a (omega arith)))
      (simp or-false (percent_crosses (threshold_of 3) r a))
      (simp or-false (time_crosses (threshold_of 4) r a total))
      (simp or-false (time_crosses (threshold_of 5) r a total))
      (simp or-false (time_crosses (threshold_of 6) r a total))
      (simp or-false (minimum_crosses (threshold_of 7) r a))
      (maximum_crosses (threshold_of 8) r a (omega arith))
