-- Months and days (docs/RULES.md, K17): months are counted from January 2000, days from 1 January 2000, both from 0.
use Rattle.std.specs.Prelude.{ℕ, zero, suc, ◌+◌, ◌-◌, ◌/◌, ◌%◌, Bool, cond, not, ◌&&◌, ◌||◌, [], ◌∷◌, ltb, eqb, get_or}

-- the calendar of this program is the hundred years from 2000 to 2099
abbrev pub most_months : ℕ
most_months = 1200

abbrev pub calendar_days : ℕ
calendar_days = 36525

-- by fours, not by hundreds, but by four hundreds
abbrev pub is_leap : (year : ℕ) → Bool
is_leap year = eqb (year % 4) 0 && not (eqb (year % 100) 0) || eqb (year % 400) 0

-- the days of a month, January is 1
abbrev pub month_days : (leap : Bool) (month : ℕ) → ℕ
month_days leap month =
    get_or (31 ∷ cond leap 29 28 ∷ 31 ∷ 30 ∷ 31 ∷ 30 ∷ 31 ∷ 31 ∷ 30 ∷ 31 ∷ 30 ∷ 31 ∷ []) (month - 1) 0

abbrev pub days_in : (year month : ℕ) → ℕ
days_in year month = month_days (is_leap year) month

-- the length of month k
unfoldable pub month_length : (k : ℕ) → ℕ
month_length k = days_in (2000 + k / 12) (k % 12 + 1)

-- the first day of month k: the lengths of the months before it, added
unfoldable pub month_start : (k : ℕ) → ℕ
month_start zero = 0
month_start (suc k) = month_start k + month_length k

-- the month that day r from the start of month k is in: months pass while the day is not in them, at most n
unfoldable pub month_from : (n k r : ℕ) → ℕ
month_from zero k r = k
month_from (suc n) k r = cond (ltb r (month_length k)) k (month_from n (suc k) (r - month_length k))

-- the month that day d is in; no more than d months pass
unfoldable pub month_of : (d : ℕ) → ℕ
month_of d = month_from d 0 d

-- the day of its month, the first is 0
unfoldable pub day_of_month : (d : ℕ) → ℕ
day_of_month d = d - month_start (month_of d)
