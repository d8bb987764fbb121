-- Where the line of a bid's conduct test runs before it is cut to the bid's range (docs/RULES.md, C21), component by component.
use Rattle.std.specs.Prelude.{ℕ, ◌+◌, ◌-◌, ◌*◌, ◌/◌, min, max, Bool, cond, ◌&&◌, leb, eqb}
use Rattle.tariff.specs.declared.threshold.Threshold.{Threshold}
use Rattle.tariff.specs.Threshold.{threshold_of}
use Rattle.tariff.specs.ConductTests.{exceeds, increase, whole, percent_of, hour_tenths, year_share, total_comparison}

-- components 0 to 2: the higher of the highest bid below the floor, and r with the lower of the percent of r and the step
unfoldable pub lower_line : Threshold → (r : ℕ) → ℕ
lower_line t r = max (t.floor - 1) (r + min (percent_of t r) t.step)

-- components 0 and 1 have the clause of tight hours where Real-Time, tight and H ≥ 1
unfoldable pub clause_asked : (market : ℕ) (tight : Bool) (H : ℕ) → Bool
clause_asked market tight H = eqb market 1 && tight && leb 1 H

-- the highest bid whose 10 × d × H is at most 1,752 × Average Price
unfoldable pub constrained_line : (r average_price H : ℕ) → ℕ
constrained_line r average_price H = r + year_share * average_price / (hour_tenths * H)

-- components 0 and 1: no floor keeps a bid above the clause's line
unfoldable pub energy_line : Threshold → (r market : ℕ) (tight : Bool) (average_price H : ℕ) → ℕ
energy_line t r market tight average_price H =
    cond (clause_asked market tight H) (min (lower_line t r) (constrained_line r average_price H)) (lower_line t r)

-- components 3 and 7: r and the percent of it
unfoldable pub percent_line : Threshold → (r : ℕ) → ℕ
percent_line t r = r + percent_of t r

-- components 4 to 6, the single test: r and the step
unfoldable pub time_line : Threshold → (r : ℕ) → ℕ
time_line t r = r + t.step

-- component 8: the percent of r, rounded up
unfoldable pub maximum_line : Threshold → (r : ℕ) → ℕ
maximum_line t r = (t.percent * r + (whole - 1)) / whole

-- components 4 to 6
unfoldable pub is_time : (component : ℕ) → Bool
is_time component = leb 4 component && leb component 6

-- what flags a time on either side of its line: the positive d of the hour add to over the limit (F10)
unfoldable pub over_sum : (component r a total : ℕ) → Bool
over_sum component r a total = is_time component && exceeds (total_comparison (increase r a) total)

unfoldable pub open_line : (component r market : ℕ) (tight : Bool) (average_price H : ℕ) → ℕ
open_line component r market tight average_price H =
    cond (leb component 1) (energy_line (threshold_of component) r market tight average_price H)
    (cond (eqb component 2) (lower_line (threshold_of component) r)
    (cond (is_time component) (time_line (threshold_of component) r)
    (cond (eqb component 8) (maximum_line (threshold_of component) r) (percent_line (threshold_of component) r))))
