-- Months have days, so that their starts rise, and a day is in one month alone.
use Prim.Native.Nat.{ℕ, zero, suc, ◌+◌, ◌-◌, ◌/◌, ◌%◌, ◌≤◌, ◌<◌}
use mathlib.Core.Bool.{Bool, true, false, cond}
use mathlib.Core.Path.{◌≡◌, refl, subst}
use native.Mathlib.Nat.{add-zero, add-suc, le_refl}
use native.Mathlib.Omega.{arith}
use lib.Dec.{ltb, leb}
use borrow.Author.Tests.{ltb-true, ltb-false, leb-true, leb-false}
use Rattle.binary.specs.Bounded.{all_to}
use Rattle.binary.proofs.BoundedLaws.{all_at}
use Rattle.calendar.specs.Months.{most_months, calendar_days, is_leap, month_days, month_length, month_start, month_from, month_of, day_of_month}

-- ---- a month's days

every_month : (leap : Bool) → all_to 12 (λ m. leb 28 (month_days leap (m + 1))) ≡ true
unfolding all_to
every_month true = refl
every_month false = refl

pub length_least : (k : ℕ) → 28 ≤ month_length k
unfolding month_length
length_least k =
    leb-true 28 _ (all_at 12 (k % 12) (λ m. leb 28 (month_days (is_leap (2000 + k / 12)) (m + 1))) (omega arith) (every_month (is_leap (2000 + k / 12))))

-- ---- the starts

pub start_first : month_start 0 ≡ 0
unfolding month_start
start_first = refl

pub start_more : (k : ℕ) → month_start (suc k) ≡ month_start k + month_length k
unfolding month_start
start_more k = refl

start_rises : (j n : ℕ) → month_start j + n ≤ month_start (j + n)
start_rises j zero = rw (add-zero (month_start j), add-zero j) (le_refl (month_start j))
start_rises j (suc n) = rw (add-suc (month_start j) n, add-suc j n) (omega (arith, start_rises j n, start_more (j + n), length_least (j + n)))

-- an earlier month starts at least a day earlier for each month between
pub start_mono : (j k : ℕ) → j ≤ k → month_start j + (k - j) ≤ month_start k
start_mono j k l = subst (λ (x : ℕ). month_start j + (k - j) ≤ month_start x) (omega arith) (start_rises j (k - j))

pub calendar_ends : month_start most_months ≡ calendar_days
unfolding month_start month_length
calendar_ends = refl

pub start_below : (k : ℕ) → k < most_months → month_start k < calendar_days
start_below k l = omega (arith, start_mono k most_months (omega arith), calendar_ends)

-- ---- the month of a day

-- the day is in the month
pub record InMonth (d k : ℕ) : Type 0 where
  pub begun : month_start k ≤ d
  pub ends : d < month_start (suc k)

from_in : (n k r : ℕ) → r ≤ n → InMonth (month_start k + r) (month_from n k r)
unfolding month_from
from_in zero k r l = record { begun = omega arith; ends = omega (arith, start_more k, length_least k) }
from_in (suc n) k r l =
    go (ltb r (month_length k)) refl (from_in n (suc k) (r - month_length k) (omega (arith, length_least k)))
  where
    go : (t : Bool) → ltb r (month_length k) ≡ t
        → InMonth (month_start (suc k) + (r - month_length k)) (month_from n (suc k) (r - month_length k))
        → InMonth (month_start k + r) (cond t k (month_from n (suc k) (r - month_length k)))
    go true e there = record { begun = omega arith; ends = omega (arith, start_more k, ltb-true r (month_length k) e) }
    go false e there =
        subst (λ (x : ℕ). InMonth x (month_from n (suc k) (r - month_length k)))
        (omega (arith, start_more k, ltb-false r (month_length k) e))
        there

pub month_in : (d : ℕ) → InMonth d (month_of d)
unfolding month_of
month_in d = subst (λ (x : ℕ). InMonth x (month_from d 0 d)) (omega (arith, start_first)) (from_in d 0 d (le_refl d))

-- one of two numbers is not above the other
pub split : {A : Type 0} (j k : ℕ) → (j ≤ k → A) → (k < j → A) → A
split {A} j k f g = go (leb j k) refl
  where
    go : (t : Bool) → leb j k ≡ t → A
    go true e = f (leb-true j k e)
    go false e = g (leb-false j k e)

-- a day is in no other month
pub month_is : (d k : ℕ) → InMonth d k → month_of d ≡ k
month_is d k h = omega (arith, go (month_of d) k (month_in d) h, go k (month_of d) h (month_in d))
  where
    go : (j k : ℕ) → InMonth d j → InMonth d k → j ≤ k
    go j k a b = split j k (λ l. l) (λ l. absurd (omega (arith, a.begun, b.ends, start_mono (suc k) j l)))

-- the months that have begun by day d are its own and those before
pub begun_le : (d k : ℕ) → month_start k ≤ d → k ≤ month_of d
begun_le d k h =
    split k (month_of d) (λ l. l) (λ l. absurd (omega (arith, h, (month_in d).ends, start_mono (suc (month_of d)) k l)))

pub le_begun : (d k : ℕ) → k ≤ month_of d → month_start k ≤ d
le_begun d k l = omega (arith, (month_in d).begun, start_mono k (month_of d) l)

pub before_start : (d k : ℕ) → d < month_start k → month_of d < k
before_start d k h = split k (month_of d) (λ l. absurd (omega (arith, h, le_begun d k l))) (λ l. l)

pub start_after : (d k : ℕ) → month_of d < k → d < month_start k
start_after d k l = omega (arith, (month_in d).ends, start_mono (suc (month_of d)) k l)

-- within the calendar
pub month_below : (d : ℕ) → d < calendar_days → month_of d < most_months
month_below d l =
    split most_months (month_of d) (λ g. absurd (omega (arith, l, (month_in d).begun, start_mono most_months (month_of d) g, calendar_ends)))
    (λ g. g)

pub day_of_month_is : (d : ℕ) → (month_start (month_of d) + day_of_month d ≡ d) × (day_of_month d < month_length (month_of d))
unfolding day_of_month
day_of_month_is d =
    (omega (arith, (month_in d).begun), omega (arith, (month_in d).begun, (month_in d).ends, start_more (month_of d)))
