-- What a table of the months' starts has.
use Rattle.std.specs.Prelude.{ℕ, ◌<◌, List, ◌≡◌, get_or}
use Rattle.calendar.specs.Months.{most_months, month_start}

-- every entry is the first day of its month
abbrev pub HasStarts : (starts : List ℕ) → Type 0
HasStarts starts = (k : ℕ) → k < most_months → get_or starts k 0 ≡ month_start k
