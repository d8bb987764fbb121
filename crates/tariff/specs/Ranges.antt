-- The limits of the fields of a case (docs/RULES.md, L6 to L10) and of the arguments of the smaller calls (C4 to C17 and C20), each under
-- one name.
use Rattle.std.specs.Prelude.{ℕ, Bool, cond, leb, eqb}
use Rattle.binary.specs.Word.{within}

-- ---- units

-- 1 is a Constrained Area
abbrev pub highest_area : ℕ
highest_area = 1

-- in tenths of MW
abbrev pub lowest_capability : ℕ
lowest_capability = 1

abbrev pub highest_capability : ℕ
highest_capability = 50000

-- the response rate, in tenths of MW per minute
abbrev pub highest_rate : ℕ
highest_rate = 50000

-- in cents
abbrev pub highest_average_price : ℕ
highest_average_price = 1000000

abbrev pub most_constrained_hours : ℕ
most_constrained_hours = 8784

-- ---- references

abbrev pub highest_component : ℕ
highest_component = 8

-- components 0 to 2
abbrev pub highest_price_reference : ℕ
highest_price_reference = 1000000

-- components 3 to 8
abbrev pub highest_other_reference : ℕ
highest_other_reference = 1000000000

abbrev pub highest_reference : (component : ℕ) → ℕ
highest_reference component = cond (leb component 2) highest_price_reference highest_other_reference

unfoldable pub reference_in_range : (component r : ℕ) → Bool
reference_in_range component r = leb r (highest_reference component)

-- ---- past entries and events

-- 1 is Real-Time
abbrev pub highest_market : ℕ
highest_market = 1

abbrev pub highest_day : ℕ
highest_day = 1000000

abbrev pub lowest_kind : ℕ
lowest_kind = 1

abbrev pub highest_kind : ℕ
highest_kind = 4

abbrev pub highest_impact : ℕ
highest_impact = 1

-- kinds 1 and 4: b in cents, on either side of 0
abbrev pub highest_price : ℕ
highest_price = 1000000

-- kind 2: b in cents
abbrev pub highest_revenue : ℕ
highest_revenue = 100000000

-- kind 3: the changes Q and R in cents, on either side of 0
abbrev pub highest_fuel_money : ℕ
highest_fuel_money = 1000000000

-- kind 3: a in tenths of MWh
abbrev pub highest_energy : ℕ
highest_energy = 50000

-- kind 3: b in cents, on either side of 0
abbrev pub highest_price_change : ℕ
highest_price_change = 1000000

-- kind 4: R, which is not the hours of a day
abbrev pub most_run_hours : ℕ
most_run_hours = 24

-- kind 4: m in tenths of MW
abbrev pub highest_megawatts : ℕ
highest_megawatts = 50000

-- components 0 and 1, on either side of 0, and component 2
abbrev pub highest_price_bid : ℕ
highest_price_bid = 1000000

-- components 3 to 8
abbrev pub highest_other_bid : ℕ
highest_other_bid = 1000000000

-- only components 0 and 1 may be negative
unfoldable pub bid_in_range : (component a : ℕ) → Bool
bid_in_range component a =
    cond (leb component 1) (within 32 highest_price_bid a)
    (leb a (cond (eqb component 2) highest_price_bid highest_other_bid))

-- ---- arguments of the smaller calls

-- d of components 4 to 6, on either side of 0: what a bid and a reference in their ranges can differ by
abbrev pub highest_increase : ℕ
highest_increase = highest_other_bid

-- S and G in tenths of MW
abbrev pub highest_group_sum : ℕ
highest_group_sum = 3200000

-- N3 and N2 count the instance itself
abbrev pub fewest_instances : ℕ
fewest_instances = 1

-- N3
abbrev pub most_instances : ℕ
most_instances = 456

-- N2 looks one period back, N3 two
abbrev pub fewest_periods_back : ℕ
fewest_periods_back = 1

abbrev pub most_periods_back : ℕ
most_periods_back = 2

-- on either side of 0
abbrev pub highest_e : ℕ
highest_e = 100000000000000

abbrev pub highest_t : ℕ
highest_t = 64000000000

-- M in halves
abbrev pub lowest_fuel_multiplier : ℕ
lowest_fuel_multiplier = 2

abbrev pub highest_fuel_multiplier : ℕ
highest_fuel_multiplier = 3
