-- Months, windows and capability periods of days named by their dates, by computation.
use Prim.Native.Nat.{ℕ, ◌+◌, zero-le}
use mathlib.Core.Bool.{true, false}
use mathlib.Core.Path.{◌≡◌, refl, sym, ◌∙◌}
use lib.Dec.{lit≤}
use borrow.Author.Tests.{le-ltb}
use Rattle.calendar.specs.Months.{month_length, month_start, month_from, month_of, day_of_month}
use Rattle.calendar.specs.Periods.{day_within, window_start, period_of, has_period, has_day}
use Rattle.calendar.specs.Dates.{date, next_day, date_of, day_of, at_most_last, six_months_before}
use Rattle.calendar.proofs.PeriodLaws.{has_day_is}
use Rattle.calendar.proofs.DateLaws.{every_day}
use Rattle.tariff.specs.SanctionRules.{fuel_day_counts}

-- the day of a date
abbrev pub on : (year month day : ℕ) → ℕ
on y m d = day_of (date y m d)

-- entries of the table, and the day that follows it
pub record Table : Type 0 where
  pub first : month_start 0 ≡ 0
  pub march : month_start 2 ≡ 60
  pub last : month_start 1199 ≡ 36494
  pub end : month_start 1200 ≡ 36525

pub table : Table
unfolding month_length month_start
table = record { first = refl; march = refl; last = refl; end = refl }

-- ---- the fuel window

-- 1 March 2021 is 184 days before 1 September, and counts; the day before it does not
pub september : (on 2021 9 1 ≡ on 2021 3 1 + 184) × (fuel_day_counts (on 2021 9 1) (on 2021 3 1) ≡ true) × (fuel_day_counts (on 2021 9 1) (on 2021 2 28) ≡ false)
unfolding day_of fuel_day_counts window_start day_within day_of_month month_of month_from month_start month_length
september = (refl, refl, refl)

-- 31 August 2001 reaches 28 February, 184 days
pub august_31 : (on 2001 8 31 ≡ on 2001 2 28 + 184) × (window_start (on 2001 8 31) ≡ on 2001 2 28) × (fuel_day_counts (on 2001 8 31) (on 2001 2 28) ≡ true)
    × (fuel_day_counts (on 2001 8 31) (on 2001 2 27) ≡ false)
unfolding day_of fuel_day_counts window_start day_within day_of_month month_of month_from month_start month_length
august_31 = (refl, refl, refl, refl)

-- 28 August 2001 reaches 28 February, 181 days, and 26 February, 183 days before, does not count
pub august_28 : (on 2001 8 28 ≡ on 2001 2 28 + 181) × (window_start (on 2001 8 28) ≡ on 2001 2 28) × (on 2001 8 28 ≡ on 2001 2 26 + 183)
    × (fuel_day_counts (on 2001 8 28) (on 2001 2 28) ≡ true)
    × (fuel_day_counts (on 2001 8 28) (on 2001 2 26) ≡ false)
unfolding day_of fuel_day_counts window_start day_within day_of_month month_of month_from month_start month_length
august_28 = (refl, refl, refl, refl, refl)

-- 31 August 2004 reaches 29 February
pub leap_year : (window_start (on 2004 8 31) ≡ on 2004 2 29) × (fuel_day_counts (on 2004 8 31) (on 2004 2 29) ≡ true)
unfolding day_of fuel_day_counts window_start day_within day_of_month month_of month_from month_start month_length
leap_year = (refl, refl)

-- day 0 has an empty window, and 30 June 2000 reaches day 0 and no more
pub from_day_0 : (window_start 0 ≡ 0) × ((e : ℕ) → fuel_day_counts 0 e ≡ false) × (window_start (on 2000 6 30) ≡ 0) × (window_start (on 2000 7 2) ≡ 1)
unfolding day_of fuel_day_counts window_start day_within day_of_month month_of month_from month_start month_length
from_day_0 = (refl, λ e. rw (le-ltb e 0 zero-le), refl, refl)

-- past the table the definitions go on: 2100 is no leap year
pub past_the_table : window_start (on 2100 8 31) ≡ on 2100 2 28
unfolding day_of window_start day_within day_of_month month_of month_from month_start month_length
past_the_table = refl

-- ---- by dates

-- 31 August 2001 is day 608, and what every day's date says of its window, applied to it
pub day_608 : (date_of 608 ≡ date 2001 8 31) × (date_of (window_start 608) ≡ date 2001 2 28)
unfolding date_of next_day six_months_before at_most_last
day_608 = (refl, (every_day 608).reaches (lit≤ tt))

-- ---- capability periods

-- the first and last days of periods
pub periods : (period_of 0 ≡ 0) × (period_of (on 2000 4 30) ≡ 0) × (period_of (on 2000 5 1) ≡ 1) × (period_of (on 2000 10 31) ≡ 1) × (period_of (on 2000 11 1) ≡ 2)
    × (period_of 7000 ≡ 38)
    × (period_of 8000 ≡ 44)
    × (period_of (on 2099 10 31) ≡ 199)
    × (period_of (on 2099 12 31) ≡ 200)
unfolding day_of period_of month_of month_from month_start month_length
periods = (refl, refl, refl, refl, refl, refl, refl, refl, refl)

-- the same by the starts of months: period 0 begins on day 0, the calendar ends period 200, and 201 has no day
pub days_of_periods : (has_day 0 0 ≡ true) × (has_day 0 (on 2000 4 30) ≡ true) × (has_day 0 (on 2000 5 1) ≡ false) × (has_day 1 (on 2000 4 30) ≡ false)
    × (has_day 1 (on 2000 5 1) ≡ true)
    × (has_day 200 (on 2099 12 31) ≡ true)
    × (has_day 200 36525 ≡ false)
    × (has_day 201 36524 ≡ false)
unfolding day_of has_day month_start month_length
days_of_periods = (refl, refl, refl, refl, refl, refl, refl, refl)

-- and what every day has by them, applied to day 8000
pub day_8000 : has_period 8000 44 ≡ true
unfolding has_day month_start month_length
day_8000 = sym (has_day_is 8000 44) ∙ refl
