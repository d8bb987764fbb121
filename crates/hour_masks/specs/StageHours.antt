-- The conduct test of an hour of a column, and its lines.
use Rattle.std.specs.Prelude.{ℕ, ◌^◌, min, Bool, ◌||◌, List, get_or}
use Rattle.binary.specs.Bounded.{bit_of}
use Rattle.tariff.specs.ConductTests.{unit_limit, group_limit, withheld_test, dispatch_test, bid_test}
use Rattle.line.specs.OpenLine.{over_sum, open_line}
use Rattle.hour_masks.specs.declared.bid_hours.Bid.{Bid}
use Rattle.hour_masks.specs.StageColumns.{over}

-- ---- megawatts

unfoldable pub either_over : (column sums : List ℕ) (unit group h : ℕ) → Bool
either_over column sums unit group h = over column unit h || over sums group h

-- each line is the lower of a share and of a limit
unfoldable pub over_shares : (column sums : List ℕ) (tight unit group h : ℕ) → Bool
over_shares column sums tight unit group h =
    either_over column sums (min unit (unit_limit (bit_of tight h))) (min group (group_limit (bit_of tight h))) h

unfoldable pub withheld_hour : (column sums : List ℕ) (tight capability G h : ℕ) → Bool
withheld_hour column sums tight capability G h = withheld_test (get_or column h 0) capability (get_or sums h 0) G (bit_of tight h)

unfoldable pub dispatch_hour : (column sums : List ℕ) (tight rate h : ℕ) → Bool
dispatch_hour column sums tight rate h = dispatch_test (get_or column h 0) rate (get_or sums h 0) (bit_of tight h)

-- ---- bids

-- no positive part of a word is 2 ^ 31
abbrev pub capped : (line : ℕ) → ℕ
capped line = min line (2 ^ 31)

abbrev pub line_in : Bid → (tight : Bool) → ℕ
line_in bid tight = open_line bid.component bid.reference bid.market tight bid.average_price bid.constrained_hours

unfoldable pub sum_hour : (column sums : List ℕ) → Bid → (h : ℕ) → Bool
sum_hour column sums bid h = over_sum bid.component bid.reference (get_or column h 0) (get_or sums h 0)

unfoldable pub bid_hour : (column sums : List ℕ) (tight : ℕ) → Bid → (h : ℕ) → Bool
bid_hour column sums tight bid h =
    bid_test bid.component bid.reference (get_or column h 0) bid.market (bit_of tight h) bid.average_price bid.constrained_hours (get_or sums h 0)
