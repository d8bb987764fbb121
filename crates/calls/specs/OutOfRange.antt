-- References, bids and units' fields out of their ranges (docs/RULES.md, C1 to C3).
use Rattle.std.specs.Prelude.{ℕ, Bool, not, ◌&&◌, ◌||◌, ltb, leb}
use Rattle.tariff.specs.Ranges.{highest_component, highest_market, highest_average_price, most_constrained_hours, reference_in_range, bid_in_range}

-- 7: the component exists and the reference is out of its range
unfoldable pub bad_reference : (component r : ℕ) → Bool
bad_reference component r = leb component highest_component && not (reference_in_range component r)

-- 10: no such component, or the bid is out of its range
unfoldable pub bad_bid : (component a : ℕ) → Bool
bad_bid component a = ltb highest_component component || not (bid_in_range component a)

-- 10: market, Average Price, Constrained Hours
unfoldable pub bad_unit : (market average_price H : ℕ) → Bool
bad_unit market average_price H =
    ltb highest_market market || ltb highest_average_price average_price || ltb most_constrained_hours H
