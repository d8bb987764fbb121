-- The figures of one event from what earlier stages found of it: its flag mask, its unit's place, r and c, and its mitigated mask.
-- proofs/FigureLaws shows that they are those of specs/Mitigation.
use Rattle.std.specs.Prelude.{ℕ, ◌^◌, ◌+◌, ◌*◌, ◌≤◌, ◌<◌, Bool, cond, ◌&&◌, List, eqb}
use Rattle.std.specs.Int.Bits.{bit_and}
use Rattle.binary.specs.Bounded.{sum_to, bit_of}
use Rattle.tariff.specs.ConductTests.{bid_test}
use Rattle.tariff.specs.DefaultBidRules.{span_mask, in_force, corrected_bid, hour_make_up, make_up}
use Rattle.tariff.specs.Ranges.{highest_megawatts}
use Rattle.casefile.specs.declared.layout.Format.{Format}
use Rattle.casefile.specs.Layout.{most_hours}
use Rattle.casefile.specs.Case.{Events}
use Rattle.casefile.specs.Decode.{cells_from, units_in, events_in, amounts_in}
use Rattle.casefile.specs.StageRead.{cell_of}

-- ---- mitigated hours

unfoldable pub mitigated_by : Events → (i flags : ℕ) → ℕ
mitigated_by e i flags =
    cond (eqb (e.kind i) 4)
    (cond (eqb (e.component i) 1 && eqb (e.market i) 0) (span_mask (e.hours i) (bit_of (bit_and flags (e.Q i))) (e.R i))
    (bit_and flags (e.Q i)))
    0

-- ---- bids in force

-- the bid of hour h, held to a level in the hours of a mask
unfoldable pub held_bid : Format → (events : List ℕ) → (i level held h : ℕ) → ℕ
held_bid format s i level held h = in_force ((events_in format s).component i) (amounts_in format s i h) level (bit_of held h)

-- hour h fails the conduct test with c
unfoldable pub fails_with : Format → (units events : List ℕ) → (place c i h : ℕ) → Bool
fails_with format u s place c i h =
    bid_test ((events_in format s).component i) c (amounts_in format s i h) ((events_in format s).market i)
    (eqb ((units_in format u).area place) 1 && bit_of ((events_in format s).P i) h) ((units_in format u).average_price place) ((units_in format u).constrained_hours place) 0

unfoldable pub bid_by : Format → (units events : List ℕ) → (place r c mitigated i h : ℕ) → ℕ
bid_by format u s place r c mitigated i h =
    cond (eqb ((events_in format s).kind i) 4)
    (cond (bit_of mitigated h) (corrected_bid ((events_in format s).component i) (amounts_in format s i h) r c (fails_with format u s place c i h)) (amounts_in format s i h))
    0

-- ---- make-up

-- no cell has more than 50,000 tenths of MW
abbrev pub MegawattsFine : (cells : List ℕ) → Type 0
MegawattsFine cells = (h : ℕ) → h < most_hours → (cell_of cells h).m ≤ highest_megawatts

-- the make-up of hour h in tenths of a cent, 0 where it is not mitigated
unfoldable pub tenths_at : (cells : List ℕ) (c mitigated : ℕ) → ℕ → ℕ
tenths_at cells c mitigated h =
    cond (bit_of mitigated h) (hour_make_up (cell_of cells h).a (cell_of cells h).b (cell_of cells h).m c) 0

unfoldable pub make_up_by : Format → (events : List ℕ) → (i r c mitigated : ℕ) → ℕ
make_up_by format s i r c mitigated =
    cond (eqb ((events_in format s).kind i) 4 && eqb ((events_in format s).component i) 0)
    (make_up r c (sum_to most_hours (tenths_at (cells_from format s i) c mitigated))) 0

-- one word of 32 bits exceeds another by at most this
abbrev pub highest_excess : ℕ
highest_excess = 2 ^ 32

-- an hour's make-up is at most this, in tenths of a cent
abbrev pub highest_tenths : ℕ
highest_tenths = highest_megawatts * highest_excess

-- an event's make-up is at most this, in cents
abbrev pub highest_make_up : ℕ
highest_make_up = most_hours * highest_tenths + 1
