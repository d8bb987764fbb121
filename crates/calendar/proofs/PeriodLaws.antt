-- A day of a month, a period by the first days of its months, and the half years of a day.
use Prim.Native.Nat.{ℕ, suc, ◌+◌, ◌-◌, ◌*◌, ◌/◌, ◌%◌, ◌≤◌, ◌<◌, min}
use mathlib.Core.Bool.{Bool, true, false, cond, ◌&&◌}
use mathlib.Core.Logic.{⊎_elim}
use mathlib.Core.Path.{◌≡◌, refl, sym, ap, ◌∙◌}
use native.Mathlib.Nat.{eq-or-lt_of_le}
use native.Mathlib.Omega.{arith}
use lib.Dec.{ltb, leb, eqb}
use borrow.Author.Tests.{ltb-true, ltb-false, leb-true, leb-false, eqb-true, eqb-false, lt-ltb, le-leb, eq-eqb, ne_eqb}
use Rattle.binary.specs.Bounded.{all_to}
use Rattle.binary.proofs.BoundedLaws.{all_at}
use Rattle.binary.proofs.Implies.{same_test, and_l, and_r}
use Rattle.calendar.specs.Months.{most_months, calendar_days, month_length, month_start, month_of}
use Rattle.calendar.specs.Periods.{period_of, has_period, last_period, has_day}
use Rattle.calendar.proofs.MonthLaws.{start_more, start_mono, start_below, begun_le, le_begun, before_start, start_after, month_below}

le_ne : (x y : ℕ) → x ≤ y → (x ≡ y → ⊥) → x < y
le_ne x y l n = ⊎_elim (λ e. absurd (n e)) (λ h. h) (eq-or-lt_of_le l)

-- the lesser of two, chosen by their order
pub min_choice : (x y : ℕ) → min x y ≡ cond (leb x y) x y
min_choice x y = go (leb x y) refl
  where
    go : (t : Bool) → leb x y ≡ t → min x y ≡ cond t x y
    go true e = omega (arith, leb-true x y e)
    go false e = omega (arith, leb-false x y e)

pub choice_below : (x y : ℕ) → cond (leb x y) x y ≤ y
choice_below x y = omega (arith, min_choice x y)

-- the next month's start: there is a day between, within the calendar
pub next_start : (k : ℕ) → k + 1 < most_months → (month_start k + 1 ≤ month_start (k + 1)) × (month_start (k + 1) < calendar_days)
next_start k l = (omega (arith, start_mono k (k + 1) (omega arith)), start_below (k + 1) l)

pub month_last : (k : ℕ) → month_start (k + 1) - month_start k - 1 ≡ month_length k - 1
month_last k = omega (arith, start_more k, same)
  where
    same : month_start (k + 1) ≡ month_start (suc k)
    same = ap month_start (omega arith)

-- a period's days run from its first month to the month after its last, or the calendar's end
abbrev period_end : (last : Bool) (p : ℕ) → ℕ
period_end last p = cond last calendar_days (month_start (6 * p + 4))

module _ (d p : ℕ) where
  in_calendar_holds : (last : Bool) → eqb p last_period ≡ last → p ≤ last_period → d < period_end last p → d < calendar_days
  in_calendar_holds true e l h = h
  in_calendar_holds false e l h =
      omega (arith, start_below (6 * p + 4) (omega (arith, le_ne p last_period l (eqb-false p last_period e))))

  from_start : (last : Bool) → eqb p last_period ≡ last → month_start (6 * p - 2) ≤ d → d < period_end last p → p ≡ (month_of d + 2) / 6
  from_start true e g h = omega (arith, begun_le d (6 * p - 2) g, eqb-true p last_period e, month_below d h)
  from_start false e g h = omega (arith, begun_le d (6 * p - 2) g, before_start d (6 * p + 4) h)

  to_end : (last : Bool) → d < calendar_days → p ≡ (month_of d + 2) / 6 → d < period_end last p
  to_end true l e = l
  to_end false l e = start_after d (6 * p + 4) (omega arith)

  period_within : p ≤ last_period
      → (leb (month_start (6 * p - 2)) d && ltb d (period_end (eqb p last_period) p)) ≡ (ltb d calendar_days && eqb p (period_of d))
  unfolding period_of
  period_within l =
      same_test (leb (month_start (6 * p - 2)) d && ltb d (period_end (eqb p last_period) p)) (ltb d calendar_days && eqb p ((month_of d + 2) / 6))
      (λ e.
      let g = leb-true (month_start (6 * p - 2)) d (and_l (leb (month_start (6 * p - 2)) d) _ e) in
      let h = ltb-true d (period_end (eqb p last_period) p) (and_r (leb (month_start (6 * p - 2)) d) _ e) in
      rw (lt-ltb d calendar_days (in_calendar_holds (eqb p last_period) refl l h)) (eq-eqb p ((month_of d + 2) / 6) (from_start (eqb p last_period) refl g h)))
      (λ e.
      let day = ltb-true d calendar_days (and_l (ltb d calendar_days) _ e) in
      let own = eqb-true p ((month_of d + 2) / 6) (and_r (ltb d calendar_days) _ e) in
      rw (le-leb (month_start (6 * p - 2)) d (le_begun d (6 * p - 2) (omega arith))) (lt-ltb d _ (to_end (eqb p last_period) day own)))

  period_beyond : last_period < p → false ≡ (ltb d calendar_days && eqb p (period_of d))
  unfolding period_of
  period_beyond h = sym (go (ltb d calendar_days) refl)
    where
      go : (t : Bool) → ltb d calendar_days ≡ t → (t && eqb p ((month_of d + 2) / 6)) ≡ false
      go true e = ne_eqb p ((month_of d + 2) / 6) (λ q. omega (arith, month_below d (ltb-true d calendar_days e)))
      go false e = refl

-- the days of a period are those of the calendar that have it
pub has_day_is : (d p : ℕ) → has_day p d ≡ has_period d p
unfolding has_day has_period
has_day_is d p = go (ltb last_period p) refl
  where
    go : (beyond : Bool) → ltb last_period p ≡ beyond
        → cond beyond false (leb (month_start (6 * p - 2)) d && ltb d (period_end (eqb p last_period) p)) ≡ (ltb d calendar_days && eqb p (period_of d))
    go true e = period_beyond d p (ltb-true last_period p e)
    go false e = period_within d p (ltb-false last_period p e)

-- ---- the period by quarters of a day from 1 May 1999

-- the first day of a period: the years before it and, of a Winter, the Summer, each in quarters, up to a whole day
abbrev first_day : (p : ℕ) → ℕ
first_day p = (1461 * ((p + 1) / 2) + 736 * (1 - p % 2) + 3 - 980) / 4

every_period : all_to (last_period + 1) (λ p. eqb (first_day p) (month_start (6 * p - 2))) ≡ true
unfolding all_to month_start month_length
every_period = refl

first_day_is : (p : ℕ) → p ≤ last_period → first_day p ≡ month_start (6 * p - 2)
first_day_is p l =
    eqb-true (first_day p) (month_start (6 * p - 2))
    (all_at (last_period + 1) p (λ q. eqb (first_day q) (month_start (6 * q - 2))) (omega arith) every_period)

abbrev pub quarters : (d : ℕ) → ℕ
quarters d = 4 * d + 980

-- a day is in the last half year that began
module _ (d : ℕ) (l : d < calendar_days) where
  within : (p : ℕ) → p ≤ last_period → first_day p ≤ d → d < first_day (p + 1) → p ≡ period_of d
  unfolding period_of
  within p m g h = go (eqb p last_period) refl
    where
      go : (last : Bool) → eqb p last_period ≡ last → p ≡ (month_of d + 2) / 6
      go true e = from_start d p true e (rw (first_day_is p m) at g) l
      go false e =
          let next : first_day (p + 1) ≡ month_start (6 * p + 4) =
          first_day_is (p + 1) (omega (arith, le_ne p last_period m (eqb-false p last_period e))) ∙ ap month_start (omega arith) in
          from_start d p false e (rw (first_day_is p m) at g) (rw next at h)

  pub in_summer : quarters d % 1461 < 736 → 2 * (quarters d / 1461) ≡ period_of d + 1
  in_summer r = omega (arith, within (2 * (quarters d / 1461) - 1) (omega arith) (omega arith) (omega arith))

  pub in_winter : 736 ≤ quarters d % 1461 → 2 * (quarters d / 1461) + 1 ≡ period_of d + 1
  in_winter r = omega (arith, within (2 * (quarters d / 1461)) (omega arith) (omega arith) (omega arith))

pub same_half_year : (p x y : ℕ) → x ≡ y + 1 → eqb x (p + 1) ≡ eqb p y
same_half_year p x y h =
    same_test (eqb x (p + 1)) (eqb p y) (λ e. eq-eqb p y (omega (arith, eqb-true x (p + 1) e))) (λ e. eq-eqb x (p + 1) (omega (arith, eqb-true p y e)))
