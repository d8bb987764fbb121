-- Multipliers in halves and penalties in cents, on plain numbers (docs/RULES.md, S; tariff 23.4.3).
use Rattle.std.specs.Prelude.{ℕ, ◌+◌, ◌-◌, ◌*◌, ◌/◌, Bool, cond, ◌&&◌, ltb, leb, eqb}
use Rattle.calendar.specs.Periods.{window_start, in_window}

-- rounded once, at the end, half a cent up (S16): x is in that many parts of a cent
unfoldable pub cents : (parts x : ℕ) → ℕ
cents parts x = (x + parts / 2) / parts

-- the capability-period window: period q is p or one of the k before it
unfoldable pub period_counts : (k p q : ℕ) → Bool
period_counts k p q = leb q p && leb p (q + k)

-- the multiplier of an instance in halves (S5): the four cases in the tariff's order, and 0 where none of them holds
unfoldable pub ladder : (n3 n2 : ℕ) → ℕ
ladder n3 n2 =
    -- 23.4.3.4.1: the first instance
    cond (eqb n3 1) 2
    -- 23.4.3.4.2: the second
    (cond (eqb n3 2) 2
    -- 23.4.3.4.3: the third or a later one in three periods, at most the third in two
    (cond (leb 3 n3 && leb n2 3) 4
    -- 23.4.3.4.4: the fourth or a later one in two periods
    (cond (leb 4 n2) 6 0)))

-- amount is the sum over flagged hours of a × (b, or 0 if negative), in tenths of a cent
unfoldable pub withheld_penalty : (multiplier amount : ℕ) → ℕ
withheld_penalty multiplier amount = cents 20 (multiplier * amount)

-- 3 halves of the flagged hours' b
unfoldable pub dispatch_penalty : (revenue : ℕ) → ℕ
dispatch_penalty revenue = cents 2 (3 * revenue)

-- the fuel window (S12): day e is before day d, and not before the same day of the month six months earlier
unfoldable pub fuel_day_counts : (d e : ℕ) → Bool
fuel_day_counts d e = in_window (window_start d) d e

-- X = M × E + 20 × T in twentieths of a cent, or 0 if negative; E is gain less loss
unfoldable pub fuel_charge : (M gain loss T : ℕ) → ℕ
fuel_charge M gain loss T = M * gain + 20 * T - M * loss

-- $5,000 in twentieths of a cent
abbrev pub least_charge : ℕ
least_charge = 10000000

-- an X below $5,000 is no penalty (S14)
unfoldable pub fuel_penalty : (M gain loss T : ℕ) → ℕ
fuel_penalty M gain loss T =
    cond (ltb (fuel_charge M gain loss T) least_charge) 0 (cents 20 (fuel_charge M gain loss T))
