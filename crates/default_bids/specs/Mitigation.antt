-- Mitigated hours, bids in force and make-up of a case's events (docs/RULES.md, D; tariff 23.4.2). The
-- references that the correct reference c is found in are `correct`.
use Rattle.std.specs.Prelude.{ℕ, Bool, cond, ◌&&◌, eqb}
use Rattle.binary.specs.Bounded.{sum_to, mask_to, bit_of}
use Rattle.tariff.specs.DefaultBidRules.{spanned, corrected_in_force, hour_make_up, make_up}
use Rattle.casefile.specs.Case.{References, Case}
use Rattle.casefile.specs.Lookup.{unit_of, level_of, reference_of}
use Rattle.conduct.specs.Flags.{tight, flagged}

-- the hour is flagged with its Q bit
unfoldable pub hit : Case → (i h : ℕ) → Bool
hit c i h = flagged c i h && bit_of (c.events.Q i) h

-- an hour of a bid is mitigated where it is hit; of component 1 Day-Ahead, where it lies in the span of the hits
unfoldable pub mitigated : Case → (i h : ℕ) → Bool
mitigated c i h =
    eqb (c.events.kind i) 4
    && cond (eqb (c.events.component i) 1 && eqb (c.events.market i) 0)
    (spanned (c.events.hours i) (hit c i) (c.events.R i) h)
    (hit c i h)

unfoldable pub mitigated_mask : Case → ℕ → ℕ
mitigated_mask c i = mask_to (c.events.hours i) (mitigated c i)

-- c of event i
unfoldable pub correct_of : Case → (correct : References) → ℕ → ℕ
correct_of c correct i = level_of correct (c.events.unit i) (c.events.component i)

-- the bid in force of event i and hour h; rows of the other kinds have none
unfoldable pub bid_in_force : Case → (correct : References) → (i h : ℕ) → ℕ
bid_in_force c correct i h =
    cond (eqb (c.events.kind i) 4)
    (corrected_in_force (c.events.component i) (c.a i h) (reference_of c i) (correct_of c correct i) (c.events.market i)
    (tight c i h) (c.units.average_price (unit_of c i)) (c.units.constrained_hours (unit_of c i)) (mitigated c i h))
    0

-- over mitigated hours, m × (the lesser of a and c, less b, or 0 if negative), in tenths of a cent
unfoldable pub make_up_tenths : Case → (correct : References) → ℕ → ℕ
make_up_tenths c correct i =
    sum_to (c.events.hours i)
    (λ h. cond (mitigated c i h)
    (hour_make_up (c.a i h) (c.events.b i h) (c.events.m i h) (correct_of c correct i)) 0)

-- component 0 alone has a make-up, where c ≠ r
unfoldable pub make_up_of : Case → (correct : References) → ℕ → ℕ
make_up_of c correct i =
    cond (eqb (c.events.kind i) 4 && eqb (c.events.component i) 0)
    (make_up (reference_of c i) (correct_of c correct i) (make_up_tenths c correct i)) 0

unfoldable pub total_make_up : Case → (correct : References) → ℕ
total_make_up c correct = sum_to c.events.count (make_up_of c correct)
