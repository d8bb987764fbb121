-- The conduct tests on plain numbers (docs/RULES.md, F; tariff 23.3.1), each by its comparisons. A bid a is its signed word of
-- 32 bits.
use Rattle.std.specs.Prelude.{ℕ, ◌+◌, ◌-◌, ◌*◌, ◌/◌, min, Bool, true, cond, ◌&&◌, ◌||◌, ltb, leb, eqb}
use Rattle.binary.specs.Word.{positive_part}
use Rattle.tariff.specs.declared.threshold.Threshold.{Threshold}
use Rattle.tariff.specs.declared.comparisons.Comparison.{Comparison}
use Rattle.tariff.specs.Threshold.{threshold_of}

-- ---- one comparison

-- it counts where it is taken
abbrev pub compared_where : (taken : Bool) (left right : ℕ) → Comparison
compared_where t l r = record { taken = t; left = l; right = r }

abbrev pub compared : (left right : ℕ) → Comparison
compared l r = compared_where true l r

-- a threshold that is met is not exceeded (F1)
abbrev pub exceeds : Comparison → Bool
exceeds c = c.taken && ltb c.right c.left

-- ---- Bids

-- d = a - r, or 0 if negative: no test asks for a d below 0
unfoldable pub increase : (r a : ℕ) → ℕ
increase r a = positive_part 32 a - r

-- a percent is of 100
abbrev pub whole : ℕ
whole = 100

-- exact: the percents of components 0 to 3 and 7 are hundreds
abbrev pub percent_of : Threshold → (r : ℕ) → ℕ
percent_of t r = t.percent * r / whole

-- components 0 to 2: where a is at least the floor, d is above the lower of the percent of r (3 × r) and the step
abbrev pub lower_comparison : Threshold → (r a : ℕ) → Comparison
lower_comparison t r a = compared_where (leb t.floor (positive_part 32 a)) (increase r a) (min (percent_of t r) t.step)

unfoldable pub lower_test : Threshold → (r a : ℕ) → Bool
lower_test t r a = exceeds (lower_comparison t r a)

-- d × H counts tenths of an hour (F6)
abbrev pub hour_tenths : ℕ
hour_tenths = 10

-- of Average Price: 2% of a year's 8,760 hours, in tenths (F6)
abbrev pub year_share : ℕ
year_share = 1752

-- components 0 and 1, where Real-Time, tight and H ≥ 1
abbrev pub constrained_comparison : (d market : ℕ) (tight : Bool) (average_price H : ℕ) → Comparison
constrained_comparison d market tight average_price H =
    compared_where (eqb market 1 && tight && leb 1 H) (hour_tenths * (d * H)) (year_share * average_price)

unfoldable pub constrained_test : (d market : ℕ) (tight : Bool) (average_price H : ℕ) → Bool
constrained_test d market tight average_price H = exceeds (constrained_comparison d market tight average_price H)

-- component 3: d is above the percent of r (2 × r)
abbrev pub percent_comparison : Threshold → (r d : ℕ) → Comparison
percent_comparison t r d = compared d (percent_of t r)

unfoldable pub percent_test : Threshold → (r d : ℕ) → Bool
percent_test t r d = exceeds (percent_comparison t r d)

-- components 4 to 6: d is above the step
abbrev pub step_comparison : Threshold → (d : ℕ) → Comparison
step_comparison t d = compared d t.step

-- in minutes, for the positive d of one unit, day, market and hour (F10)
abbrev pub time_limit : ℕ
time_limit = 360

-- or, where d > 0, the three positive d add to over the limit
abbrev pub total_comparison : (d total : ℕ) → Comparison
total_comparison d total = compared_where (ltb 0 d) total time_limit

unfoldable pub time_test : Threshold → (d total : ℕ) → Bool
time_test t d total = exceeds (step_comparison t d) || exceeds (total_comparison d total)

-- component 7: a is above r by more than the percent of it (2 × r)
abbrev pub minimum_comparison : Threshold → (r a : ℕ) → Comparison
minimum_comparison t r a = compared (positive_part 32 a) (r + percent_of t r)

-- component 8, whose bids are not negative: r is above what a is the percent of (2 × a)
abbrev pub maximum_comparison : Threshold → (r a : ℕ) → Comparison
maximum_comparison t r a = compared r (whole * positive_part 32 a / t.percent)

unfoldable pub maximum_test : Threshold → (r a : ℕ) → Bool
maximum_test t r a = exceeds (maximum_comparison t r a)

-- total is the sum of the positive time increases, 0 for the single test
unfoldable pub bid_test : (component r a market : ℕ) (tight : Bool) (average_price H total : ℕ) → Bool
bid_test component r a market tight average_price H total =
    (leb component 1
    && (lower_test (threshold_of component) r a || constrained_test (increase r a) market tight average_price H))
    || (eqb component 2 && lower_test (threshold_of component) r a)
    || (eqb component 3 && percent_test (threshold_of component) r (increase r a))
    || (leb 4 component && leb component 6 && time_test (threshold_of component) (increase r a) total)
    || (eqb component 7 && exceeds (minimum_comparison (threshold_of component) r a))
    || (eqb component 8 && maximum_test (threshold_of component) r a)

-- ---- Withheld and dispatch

-- a tenth of the capability (F15)
abbrev pub unit_share : ℕ
unit_share = 10

-- a twentieth of G (F15)
abbrev pub group_share : ℕ
group_share = 20

-- minutes at the response rate (F18)
abbrev pub response_minutes : ℕ
response_minutes = 15

-- in tenths of MW, of a tight hour and of any other (F16)
unfoldable pub unit_limit : (tight : Bool) → ℕ
unit_limit tight = cond tight 500 1000

unfoldable pub group_limit : (tight : Bool) → ℕ
group_limit tight = cond tight 1000 2000

abbrev pub capability_comparison : (a capability : ℕ) → Comparison
capability_comparison a capability = compared (unit_share * a) capability

abbrev pub rate_comparison : (a rate : ℕ) → Comparison
rate_comparison a rate = compared a (response_minutes * rate)

abbrev pub unit_comparison : (a : ℕ) (tight : Bool) → Comparison
unit_comparison a tight = compared a (unit_limit tight)

-- S is the group's sum of a, G its listed capability
abbrev pub share_comparison : (S G : ℕ) → Comparison
share_comparison S G = compared (group_share * S) G

abbrev pub group_comparison : (S : ℕ) (tight : Bool) → Comparison
group_comparison S tight = compared S (group_limit tight)

unfoldable pub withheld_test : (a capability S G : ℕ) (tight : Bool) → Bool
withheld_test a capability S G tight =
    exceeds (capability_comparison a capability) || exceeds (unit_comparison a tight) || exceeds (share_comparison S G)
    || exceeds (group_comparison S tight)

unfoldable pub dispatch_test : (a rate S : ℕ) (tight : Bool) → Bool
dispatch_test a rate S tight =
    exceeds (rate_comparison a rate) || exceeds (unit_comparison a tight) || exceeds (group_comparison S tight)
