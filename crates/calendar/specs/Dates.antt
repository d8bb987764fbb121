-- The calendar by dates, counted day by day, and what the definitions by months say of them.
use Rattle.std.specs.Prelude.{ℕ, zero, suc, ◌+◌, ◌-◌, ◌*◌, ◌≤◌, ◌<◌, min, cond, ◌≡◌, ltb}
use Rattle.calendar.specs.Months.{days_in, month_start}
use Rattle.calendar.specs.Periods.{window_start, period_of}

-- January is month 1, a month's first day is 1
pub record Date : Type 0 where
  pub year : ℕ
  pub month : ℕ
  pub day : ℕ

abbrev pub date : (year month day : ℕ) → Date
date y m d = record { year = y; month = m; day = d }

unfoldable pub next_day : Date → Date
next_day x =
    cond (ltb x.day (days_in x.year x.month)) (date x.year x.month (x.day + 1))
    (cond (ltb x.month 12) (date x.year (x.month + 1) 1) (date (x.year + 1) 1 1))

-- the date of day d
unfoldable pub date_of : (d : ℕ) → Date
date_of zero = date 2000 1 1
date_of (suc d) = next_day (date_of d)

-- the day of a date from 2000 on
unfoldable pub day_of : Date → ℕ
day_of x = month_start (12 * (x.year - 2000) + (x.month - 1)) + (x.day - 1)

-- that day of a month, or the month's last
unfoldable pub at_most_last : Date → Date
at_most_last x = date x.year x.month (min x.day (days_in x.year x.month))

-- the same day of the month six months earlier
unfoldable pub six_months_before : Date → Date
six_months_before x =
    cond (ltb 6 x.month) (at_most_last (date x.year (x.month - 6) x.day))
    (at_most_last (date (x.year - 1) (x.month + 6) x.day))

-- the capability periods begun by a month of its year: Summer's in May, Winter's in November
unfoldable pub periods_begun : (month : ℕ) → ℕ
periods_begun month = cond (ltb month 5) 0 (cond (ltb month 11) 1 2)

-- a day is found again by its date; its window begins six months earlier, or on day 0 where that is before 2000; and its
-- period is by its year and month
pub record ByDates (d : ℕ) : Type 0 where
  pub again : day_of (date_of d) ≡ d
  pub reaches : 2000 ≤ (six_months_before (date_of d)).year → date_of (window_start d) ≡ six_months_before (date_of d)
  pub cut : (six_months_before (date_of d)).year < 2000 → window_start d ≡ 0
  pub period : period_of d ≡ 2 * ((date_of d).year - 2000) + periods_begun (date_of d).month

abbrev pub EveryDayByDates : Type 0
EveryDayByDates = (d : ℕ) → ByDates d
