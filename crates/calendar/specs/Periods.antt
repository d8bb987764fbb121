-- Six months back, and capability periods, by the months of the calendar (docs/RULES.md, K18 and S12).
use Rattle.std.specs.Prelude.{ℕ, ◌+◌, ◌-◌, ◌*◌, ◌/◌, min, Bool, false, cond, ◌&&◌, ltb, leb, eqb}
use Rattle.calendar.specs.Months.{calendar_days, month_length, month_start, month_of, day_of_month}

-- day x of month k, or the month's last where it has no such day; the first is 0
unfoldable pub day_within : (k x : ℕ) → ℕ
day_within k x = month_start k + min x (month_length k - 1)

-- the same day of the month six months earlier, or day 0 where that is before 2000
unfoldable pub window_start : (d : ℕ) → ℕ
window_start d = cond (ltb (month_of d) 6) 0 (day_within (month_of d - 6) (day_of_month d))

-- day e is before day d, and not before the first day of its window
abbrev pub in_window : (first d e : ℕ) → Bool
in_window first d e = ltb e d && leb first e

-- Summer from 1 May, Winter from 1 November; period 0 is the Winter that ends on 30 April 2000
unfoldable pub period_of : (d : ℕ) → ℕ
period_of d = (month_of d + 2) / 6

-- the calendar has day d
abbrev pub in_calendar : (d : ℕ) → Bool
in_calendar d = ltb d calendar_days

-- p is the period of day d
abbrev pub is_period : (d p : ℕ) → Bool
is_period d p = eqb p (period_of d)

unfoldable pub has_period : (d p : ℕ) → Bool
has_period d p = in_calendar d && is_period d p

-- the period that the calendar's last day is in
abbrev pub last_period : ℕ
last_period = 200

-- has_period by the starts of months: the days from a period's first month to the month after its last, or to the calendar's end; none of a period past the calendar
unfoldable pub has_day : (p d : ℕ) → Bool
has_day p d =
    cond (ltb last_period p) false (leb (month_start (6 * p - 2)) d && ltb d (cond (eqb p last_period) calendar_days (month_start (6 * p + 4))))
