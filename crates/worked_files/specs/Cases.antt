-- Worked cases: their files and the rows that they settle into.
use Rattle.std.specs.Prelude.{ℕ, ◌-◌, ◌^◌, cond, List, [], ◌++◌, eqb, replicate}
use Rattle.binary.specs.Bytes.{bytes_of}
use Rattle.worked_files.specs.Files.{file_of, unit_bytes, reference_bytes, entry_bytes, units}
use Rattle.binary.specs.Lists.{join_to}

-- the word of a negative amount
abbrev pub minus : ℕ → ℕ
minus x = 2 ^ 32 - x

-- a value at one hour, and otherwise those of f
abbrev pub at : (h : ℕ) {A : Type 0} → A → (ℕ → A) → ℕ → A
at h x f k = cond (eqb k h) x (f k)

unfoldable pub tight_unit : (number group capability rate average_price constrained_hours : ℕ) → List ℕ
tight_unit number group capability rate average_price constrained_hours =
    bytes_of 2 number ++ bytes_of 2 group ++ bytes_of 1 1 ++ bytes_of 3 0 ++ bytes_of 4 capability ++ bytes_of 4 rate
    ++ bytes_of 4 average_price ++ bytes_of 2 constrained_hours ++ bytes_of 2 0

unfoldable pub cell_bytes : (a b m : ℕ) → List ℕ
cell_bytes a b m = bytes_of 4 a ++ bytes_of 4 b ++ bytes_of 4 m

-- an event of period 4 with these cells
unfoldable pub event_of : (day kind market unit component impact P Q R : ℕ) (cells : ℕ → List ℕ) → List ℕ
event_of day kind market unit component impact P Q R cells =
    bytes_of 1 kind ++ bytes_of 1 market ++ bytes_of 2 unit ++ bytes_of 2 4 ++ bytes_of 1 component ++ bytes_of 1 impact
    ++ bytes_of 4 day ++ bytes_of 4 P ++ bytes_of 4 Q ++ bytes_of 4 R ++ join_to 24 cells

abbrev pub empty : ℕ → List ℕ
empty h = replicate 12 0

unfoldable pub row_bytes : (flags mitigated penalty make_up multiplier n3 n2 : ℕ) (bids : ℕ → ℕ) → List ℕ
row_bytes flags mitigated penalty make_up multiplier n3 n2 bids =
    bytes_of 4 flags ++ bytes_of 4 mitigated ++ bytes_of 8 penalty ++ bytes_of 8 make_up ++ bytes_of 1 multiplier ++ bytes_of 1 0
    ++ bytes_of 2 n3 ++ bytes_of 2 n2 ++ bytes_of 2 0 ++ join_to 24 (λ h. bytes_of 4 (bids h))

abbrev pub no_bids : ℕ → ℕ
no_bids h = 0

-- ---- kinds 1 to 3

-- units 12 and 13 of group 1, and unit 20 of group 2 in a Constrained Area
unfoldable pub area_units : List ℕ
area_units = units ++ tight_unit 20 2 8000 100 5000 1000

-- three instances of group 1, of the periods 2, 3 and 4
unfoldable pub past_instances : List ℕ
past_instances = entry_bytes 1 1 0 2 395 ++ entry_bytes 1 1 0 3 595 ++ entry_bytes 1 1 0 4 675

-- withheld by units 12 and 13, whose S of hour 1 is over the line; dispatch in a tight hour; a party-day of fuel, and fuel 100
-- days later
unfoldable pub sanctioned_events : List ℕ
sanctioned_events =
    event_of 695 1 0 12 0 1 0 0 0 (at 0 (cell_bytes 501 4005 0) (at 1 (cell_bytes 400 1000 0) empty))
    ++ event_of 695 1 0 13 0 1 0 0 0 (at 1 (cell_bytes 700 (minus 100) 0) empty)
    ++ event_of 695 2 1 20 0 1 8 0 0 (at 3 (cell_bytes 501 1001 0) empty)
    ++ event_of 695 3 0 12 0 0 1 (minus 1000) (minus 500) (at 0 (cell_bytes 100 60000 0) empty)
    ++ event_of 695 3 0 13 0 0 32 0 200 (at 0 (cell_bytes 50 (minus 1000) 0) (at 5 (cell_bytes 10 7 0) empty))
    ++ event_of 795 3 0 12 0 0 1 499999 0 empty

unfoldable pub sanctioned : List ℕ
sanctioned = file_of area_units [] past_instances sanctioned_events

-- the first withheld event is the fourth instance in three periods and the third in two, the second one more; its negative price
-- costs nothing. E of the party-day is 5,940,070, of the later day 4,999,990 with M 3
unfoldable pub sanctioned_rows : List ℕ
sanctioned_rows =
    row_bytes 3 0 481301 0 4 4 3 no_bids
    ++ row_bytes 2 0 0 0 6 5 4 no_bids
    ++ row_bytes 8 0 1502 0 3 0 0 no_bids
    ++ row_bytes 33 0 594007 0 2 0 0 no_bids
    ++ row_bytes 33 0 0 0 0 0 0 no_bids
    ++ row_bytes 1 0 749999 0 3 0 0 no_bids

-- three plants of group 1 on one fuel day, after a withheld event: hour 0 is in the P of unit 12 alone and hour 5 in that of unit
-- 13; unit 14 has an empty P, and its hour 7 is in no P
unfoldable pub fuel_day_events : List ℕ
fuel_day_events =
    event_of 695 1 0 12 0 1 0 0 0 (at 0 (cell_bytes 501 4000 0) empty)
    ++ event_of 695 3 0 12 0 0 1 (minus 1000) 0 (at 0 (cell_bytes 100 60000 0) (at 5 (cell_bytes 20 (minus 30) 0) empty))
    ++ event_of 695 3 0 13 0 0 32 0 0 (at 0 (cell_bytes 50 (minus 1000) 0) (at 5 (cell_bytes 10 7 0) empty))
    ++ event_of 695 3 0 14 0 0 0 500 0 (at 5 (cell_bytes 300 100 0) (at 7 (cell_bytes 999 999 0) empty))

unfoldable pub fuel_day : List ℕ
fuel_day = file_of (units ++ unit_bytes 14 1 0 8000) [] [] fuel_day_events

-- ---- kind 4

unfoldable pub bid_references : List ℕ
bid_references =
    reference_bytes 20 0 2000 ++ reference_bytes 20 4 100 ++ reference_bytes 20 5 100 ++ reference_bytes 20 6 100
    ++ reference_bytes 20 8 100

-- tight energy, three times, a maximum parameter
unfoldable pub bid_events : List ℕ
bid_events =
    event_of 695 4 1 20 0 0 4 4 0 (at 2 (cell_bytes 2877 1000 1000) empty)
    ++ event_of 695 4 1 20 4 0 0 0 0 (at 0 (cell_bytes 221 0 0) empty)
    ++ event_of 695 4 1 20 5 0 0 1 0 (at 0 (cell_bytes 220 0 0) empty)
    ++ event_of 695 4 1 20 6 0 0 0 0 (at 0 (cell_bytes 220 0 0) empty)
    ++ event_of 695 4 1 20 8 0 0 1 0 (at 0 (cell_bytes 49 0 0) empty)

unfoldable pub bids : List ℕ
bids = file_of (tight_unit 20 2 8000 100 5000 1000) bid_references [] bid_events

unfoldable pub bid_rows : List ℕ
bid_rows =
    row_bytes 4 4 0 150000 0 0 0 (at 2 2000 no_bids)
    ++ row_bytes 1 0 0 0 0 0 0 (at 0 221 no_bids)
    ++ row_bytes 1 1 0 0 0 0 0 (at 0 100 no_bids)
    ++ row_bytes 1 0 0 0 0 0 0 (at 0 220 no_bids)
    ++ row_bytes 16777215 1 0 0 0 0 0 (at 0 100 no_bids)

-- a Day-Ahead bid on minimum generation
unfoldable pub minimum_generation : List ℕ
minimum_generation =
    file_of (unit_bytes 12 1 0 5000) (reference_bytes 12 1 5000) []
    (event_of 695 4 0 12 1 0 0 262144 4 (at 18 (cell_bytes 15001 0 0) (at 20 (cell_bytes 4500 0 0) empty)))

-- ---- all four kinds

unfoldable pub mixed_references : List ℕ
mixed_references = reference_bytes 20 0 2000 ++ reference_bytes 20 3 1000

-- withheld in a tight hour, dispatch without impact, fuel after a past penalty, and two bids
unfoldable pub mixed_events : List ℕ
mixed_events =
    event_of 695 1 1 20 0 1 4 0 0 (at 2 (cell_bytes 600 2500 0) empty)
    ++ event_of 695 2 1 13 0 0 0 0 0 (at 4 (cell_bytes 1001 999 0) empty)
    ++ event_of 695 3 0 12 0 0 1 100000 (minus 50) (at 0 (cell_bytes 10 100 0) empty)
    ++ event_of 695 4 0 20 0 0 0 1 0 (at 0 (cell_bytes 12001 0 100) empty)
    ++ event_of 695 4 0 20 3 0 0 0 0 (at 1 (cell_bytes 3001 0 0) empty)

unfoldable pub mixed : List ℕ
mixed = file_of area_units mixed_references (entry_bytes 1 3 0 3 595) mixed_events

-- 2 × 600 × 2,500 twentieths is 150,000 cents; E is 1,001,000, and 3 × E is below 10,000,000
unfoldable pub mixed_rows : List ℕ
mixed_rows =
    row_bytes 4 0 150000 0 2 1 1 no_bids
    ++ row_bytes 16 0 0 0 0 0 0 no_bids
    ++ row_bytes 1 0 0 0 3 0 0 no_bids
    ++ row_bytes 1 1 0 0 0 0 0 (at 0 2000 no_bids)
    ++ row_bytes 2 0 0 0 0 0 0 (at 1 3001 no_bids)

-- two days of one group: an instance at a negative price counts for the next day's, and a fuel penalty in Real-Time raises the
-- next day's Day-Ahead, whose union of P is empty
unfoldable pub two_days_events : List ℕ
two_days_events =
    event_of 695 1 0 12 0 1 0 0 0 (at 5 (cell_bytes 501 (minus 100) 0) empty)
    ++ event_of 695 3 1 12 0 0 2 1000000 0 (at 1 (cell_bytes 100 200 0) empty)
    ++ event_of 696 1 0 13 0 1 0 0 0 (at 5 (cell_bytes 1501 2000 0) empty)
    ++ event_of 696 3 0 13 0 0 0 (minus 10) 600000 empty
    ++ event_of 696 4 1 13 7 0 0 1 0 (at 0 (cell_bytes 201 0 0) empty)

unfoldable pub two_days : List ℕ
two_days = file_of units (reference_bytes 13 7 100) [] two_days_events

-- E 10,020,000 with M 2; 2 × 1,501 × 2,000 twentieths; E −100 and T 600,000 with M 3 are 11,999,700 twentieths
unfoldable pub two_days_rows : List ℕ
two_days_rows =
    row_bytes 32 0 0 0 2 1 1 no_bids
    ++ row_bytes 2 0 1002000 0 2 0 0 no_bids
    ++ row_bytes 32 0 300200 0 2 2 2 no_bids
    ++ row_bytes 0 0 599985 0 3 0 0 no_bids
    ++ row_bytes 1 1 0 0 0 0 0 (at 0 100 no_bids)

-- one group's S of an hour flags two units that pass alone, one of them without impact; a unit with no response rate; dispatch on
-- its limits, tight and not; a fuel day of negative E; reserve and start-up cost
unfoldable pub group_references : List ℕ
group_references = reference_bytes 13 2 1000 ++ reference_bytes 13 3 1000

unfoldable pub group_events : List ℕ
group_events =
    event_of 695 1 1 12 0 1 0 0 0 (at 4 (cell_bytes 500 3000 0) empty)
    ++ event_of 695 1 1 13 0 0 0 0 0 (at 4 (cell_bytes 600 5000 0) empty)
    ++ event_of 695 2 1 12 0 1 0 0 0 (at 7 (cell_bytes 1 333 0) empty)
    ++ event_of 695 2 1 20 0 1 2 0 0 (at 0 (cell_bytes 1000 999 0) (at 1 (cell_bytes 500 999 0) empty))
    ++ event_of 695 3 1 12 0 0 1 (minus 10) 0 empty
    ++ event_of 695 3 1 13 0 0 8 0 0 empty
    ++ event_of 695 4 0 13 2 0 0 3 0 (at 0 (cell_bytes 4001 0 0) (at 1 (cell_bytes 4000 0 0) empty))
    ++ event_of 696 4 0 13 3 0 0 64 0 (at 6 (cell_bytes 3001 0 0) empty)

unfoldable pub group : List ℕ
group = file_of area_units group_references [] group_events

-- S is 1,100 of G 20,000: 20 × S is above it; 2 × 500 × 3,000 twentieths; 3 halves of 333 are 499.5
unfoldable pub group_rows : List ℕ
group_rows =
    row_bytes 16 0 150000 0 2 1 1 no_bids
    ++ row_bytes 16 0 0 0 0 0 0 no_bids
    ++ row_bytes 128 0 500 0 3 0 0 no_bids
    ++ row_bytes 0 0 0 0 0 0 0 no_bids
    ++ row_bytes 9 0 0 0 2 0 0 no_bids
    ++ row_bytes 9 0 0 0 0 0 0 no_bids
    ++ row_bytes 1 1 0 0 0 0 0 (at 0 1000 (at 1 4000 no_bids))
    ++ row_bytes 64 64 0 0 0 0 0 (at 6 1000 no_bids)

-- past entries on both sides of every window: periods 1 (too early), 2 and 3, the other market; fuel on the day before the
-- window of day 695 and on its first day
unfoldable pub window_past : List ℕ
window_past =
    entry_bytes 1 1 0 1 195 ++ entry_bytes 1 1 1 4 675 ++ entry_bytes 1 1 0 2 395 ++ entry_bytes 1 1 0 3 595
    ++ entry_bytes 2 3 1 3 510 ++ entry_bytes 1 3 1 3 511

unfoldable pub window_references : List ℕ
window_references = reference_bytes 20 0 2000 ++ reference_bytes 20 3 2000

unfoldable pub window_correction : List ℕ
window_correction = reference_bytes 20 0 2500 ++ reference_bytes 20 3 2500

-- two instances of one group, a fuel day of each, start-up cost, and energy in a tight hour
unfoldable pub window_events : List ℕ
window_events =
    event_of 695 1 0 12 0 1 0 0 0 (at 23 (cell_bytes 1001 1 0) empty)
    ++ event_of 695 1 0 13 0 1 0 0 0 (at 23 (cell_bytes 1 5 0) empty)
    ++ event_of 695 3 0 13 0 0 1 0 1000000 (at 0 (cell_bytes 100 50000 0) empty)
    ++ event_of 695 3 0 20 0 0 0 500000 0 empty
    ++ event_of 695 4 0 20 3 0 0 1120 0 (at 5 (cell_bytes 6001 0 0) (at 6 (cell_bytes 6000 0 0) (at 10 (cell_bytes 7501 0 0) empty)))
    ++ event_of 695 4 1 20 0 0 4 4 0 (at 2 (cell_bytes 2877 2499 7) empty)

unfoldable pub windows : List ℕ
windows = file_of area_units window_references window_past window_events

-- N3 3 and N2 2, then 4 and 3: 4,004 twentieths are 200 cents; E 5,000,000 and T 1,000,000 with M 3; E 5,000,000 with M 2. With
-- c 2,500 the bid of 6,001 passes and 7,501 fails. 7 × (2,500 − 2,499) tenths are 1 cent
unfoldable pub window_rows : List ℕ
window_rows =
    row_bytes 8388608 0 200 0 4 3 2 no_bids
    ++ row_bytes 8388608 0 1 0 4 4 3 no_bids
    ++ row_bytes 1 0 1750000 0 3 0 0 no_bids
    ++ row_bytes 0 0 500000 0 2 0 0 no_bids
    ++ row_bytes 1056 1056 0 0 0 0 0 (at 5 6001 (at 6 6000 (at 10 2500 no_bids)))
    ++ row_bytes 4 4 0 1 0 0 0 (at 2 2000 no_bids)
