-- The dates, counted day by day, are those of the months; so six months back and the period are by dates too.
use Prim.Native.Nat.{ℕ, zero, suc, ◌+◌, ◌-◌, ◌*◌, ◌/◌, ◌%◌, ◌≤◌, ◌<◌, min}
use mathlib.Core.Bool.{Bool, true, false, cond}
use mathlib.Core.Path.{◌≡◌, refl, sym, ap, ap₂, ◌∙◌}
use native.Mathlib.Omega.{arith}
use lib.Dec.{ltb}
use borrow.Author.Tests.{ltb-true, ltb-false}
use Rattle.calendar.specs.Months.{month_length, month_start, month_from, month_of, day_of_month}
use Rattle.calendar.specs.Periods.{day_within, window_start, period_of}
use Rattle.calendar.specs.Dates.{Date, date, next_day, date_of, day_of, at_most_last, six_months_before, periods_begun, EveryDayByDates}
use Rattle.calendar.proofs.MonthLaws.{InMonth, length_least, start_more, month_is, day_of_month_is}

-- day x of month k, as a date
abbrev date_in : (k x : ℕ) → Date
date_in k x = date (2000 + k / 12) (k % 12 + 1) (x + 1)

same_date : (y y' m m' x x' : ℕ) → y ≡ y' → m ≡ m' → x ≡ x' → date y m x ≡ date y' m' x'
same_date y y' m m' x x' e f g = rw (e, f, g)

-- ---- the next day

next_month : (k : ℕ) (within : Bool) → ltb (k % 12 + 1) 12 ≡ within
    → cond within (date (2000 + k / 12) (k % 12 + 1 + 1) 1) (date (2000 + k / 12 + 1) 1 1) ≡ date_in (suc k) 0
next_month k true e =
    same_date _ _ _ _ _ _ (omega (arith, ltb-true (k % 12 + 1) 12 e)) (omega (arith, ltb-true (k % 12 + 1) 12 e)) refl
next_month k false e =
    same_date _ _ _ _ _ _ (omega (arith, ltb-false (k % 12 + 1) 12 e)) (omega (arith, ltb-false (k % 12 + 1) 12 e)) refl

next_date : (k x : ℕ) → next_day (date_in k x) ≡ cond (ltb (x + 1) (month_length k)) (date_in k (x + 1)) (date_in (suc k) 0)
unfolding next_day month_length
next_date k x = ap (λ (y : Date). cond (ltb (x + 1) (month_length k)) (date_in k (x + 1)) y) (next_month k (ltb (k % 12 + 1) 12) refl)

-- ---- the date of a day

module _ (k x : ℕ) (l : x < month_length k) where
  in_month : InMonth (month_start k + x) k
  in_month = record { begun = omega arith; ends = omega (arith, start_more k) }

  month_there : month_of (month_start k + x) ≡ k
  month_there = month_is (month_start k + x) k in_month

  day_there : day_of_month (month_start k + x) ≡ x
  unfolding day_of_month
  day_there = rw month_there (omega arith)

turn : (d k x : ℕ) → month_start k + x ≡ d → x < month_length k → (within : Bool) → ltb (x + 1) (month_length k) ≡ within
    → cond within (date_in k (x + 1)) (date_in (suc k) 0) ≡ date_in (month_of (suc d)) (day_of_month (suc d))
turn d k x e l true t =
    let h = ltb-true (x + 1) (month_length k) t in
    let at : month_start k + (x + 1) ≡ suc d = omega arith in
    rw (← at, month_there k (x + 1) h, day_there k (x + 1) h)
turn d k x e l false t =
    let at : month_start (suc k) + 0 ≡ suc d = omega (arith, start_more k, ltb-false (x + 1) (month_length k) t) in
    let h : 0 < month_length (suc k) = omega (arith, length_least (suc k)) in
    rw (← at, month_there (suc k) 0 h, day_there (suc k) 0 h)

date_by_month : (d : ℕ) → date_of d ≡ date_in (month_of d) (day_of_month d)
unfolding date_of month_of month_from day_of_month month_start
date_by_month zero = refl
date_by_month (suc d) =
    ap next_day (date_by_month d)
    ∙ next_date (month_of d) (day_of_month d)
    ∙ turn d (month_of d) (day_of_month d) (day_of_month_is d).0 (day_of_month_is d).1 _ refl

date_there : (k x : ℕ) → x < month_length k → date_of (month_start k + x) ≡ date_in k x
date_there k x l = date_by_month (month_start k + x) ∙ rw (month_there k x l, day_there k x l)

-- ---- six months before

last_day : (k x : ℕ) → min (x + 1) (month_length k) ≡ min x (month_length k - 1) + 1
last_day k x = omega (arith, length_least k)

-- the year and the month of month k - 6
six_before : (k x : ℕ) → 6 ≤ k → (late : Bool) → ltb 6 (k % 12 + 1) ≡ late
    → cond late (at_most_last (date (2000 + k / 12) (k % 12 + 1 - 6) (x + 1))) (at_most_last (date (2000 + k / 12 - 1) (k % 12 + 1 + 6) (x + 1)))
    ≡ at_most_last (date_in (k - 6) x)
six_before k x l true e =
    ap at_most_last (same_date _ _ _ _ _ _ (omega (arith, ltb-true 6 (k % 12 + 1) e)) (omega (arith, ltb-true 6 (k % 12 + 1) e)) refl)
six_before k x l false e =
    ap at_most_last (same_date _ _ _ _ _ _ (omega (arith, ltb-false 6 (k % 12 + 1) e)) (omega (arith, ltb-false 6 (k % 12 + 1) e)) refl)

at_most_last_is : (k x : ℕ) → at_most_last (date_in k x) ≡ date_in k (min x (month_length k - 1))
unfolding at_most_last month_length
at_most_last_is k x = ap (λ (y : ℕ). date (2000 + k / 12) (k % 12 + 1) y) (last_day k x)

months_before : (k x : ℕ) → 6 ≤ k → six_months_before (date_in k x) ≡ date_in (k - 6) (min x (month_length (k - 6) - 1))
unfolding six_months_before
months_before k x l = six_before k x l (ltb 6 (k % 12 + 1)) refl ∙ at_most_last_is (k - 6) x

year_before : (k x : ℕ) → k < 6 → (six_months_before (date_in k x)).year < 2000
unfolding six_months_before at_most_last
year_before k x l = go (ltb 6 (k % 12 + 1)) refl
  where
    go : (late : Bool) → ltb 6 (k % 12 + 1) ≡ late
        → (cond late (at_most_last (date (2000 + k / 12) (k % 12 + 1 - 6) (x + 1))) (at_most_last (date (2000 + k / 12 - 1) (k % 12 + 1 + 6) (x + 1)))).year < 2000
    go true e = absurd (omega (arith, ltb-true 6 (k % 12 + 1) e))
    go false e = omega arith

-- ---- the promise

period_there : (k : ℕ) → (k + 2) / 6 ≡ 2 * (2000 + k / 12 - 2000) + periods_begun (k % 12 + 1)
unfolding periods_begun
period_there k = go (ltb (k % 12 + 1) 5) refl (ltb (k % 12 + 1) 11) refl
  where
    go : (winter : Bool) → ltb (k % 12 + 1) 5 ≡ winter → (summer : Bool) → ltb (k % 12 + 1) 11 ≡ summer
        → (k + 2) / 6 ≡ 2 * (2000 + k / 12 - 2000) + cond winter 0 (cond summer 1 2)
    go true e s f = omega (arith, ltb-true (k % 12 + 1) 5 e)
    go false e true f = omega (arith, ltb-false (k % 12 + 1) 5 e, ltb-true (k % 12 + 1) 11 f)
    go false e false f = omega (arith, ltb-false (k % 12 + 1) 11 f)

day_again : (k x : ℕ) → day_of (date_in k x) ≡ month_start k + x
unfolding day_of
day_again k x = ap₂ (λ (j y : ℕ). month_start j + y) (omega arith) (omega arith)

reaches_back : (k x : ℕ) → 6 ≤ k → date_of (day_within (k - 6) x) ≡ six_months_before (date_in k x)
unfolding day_within
reaches_back k x l = date_there (k - 6) (min x (month_length (k - 6) - 1)) (omega (arith, length_least (k - 6))) ∙ sym (months_before k x l)

year_back : (k x : ℕ) → 6 ≤ k → 2000 ≤ (six_months_before (date_in k x)).year
year_back k x l = rw (months_before k x l) (omega arith)

module _ (k x : ℕ) where
  window_by_date : (early : Bool) → ltb k 6 ≡ early
      → (2000 ≤ (six_months_before (date_in k x)).year → date_of (cond early 0 (day_within (k - 6) x)) ≡ six_months_before (date_in k x))
      × ((six_months_before (date_in k x)).year < 2000 → cond early 0 (day_within (k - 6) x) ≡ 0)
  window_by_date true e = (λ h. absurd (omega (arith, year_before k x (ltb-true k 6 e))), λ h. refl)
  window_by_date false e =
      (λ h. reaches_back k x (ltb-false k 6 e), λ h. absurd (omega (arith, year_back k x (ltb-false k 6 e))))

pub every_day : EveryDayByDates
unfolding window_start period_of
every_day d =
    record {
      again = rw (date_by_month d) (day_again (month_of d) (day_of_month d) ∙ (day_of_month_is d).0);
      reaches = rw (date_by_month d) (window_by_date (month_of d) (day_of_month d) (ltb (month_of d) 6) refl).0;
      cut = rw (date_by_month d) (window_by_date (month_of d) (day_of_month d) (ltb (month_of d) 6) refl).1;
      period = rw (date_by_month d) (period_there (month_of d));
    }
