-- A plant's part of E (docs/RULES.md, R16; tariff 23.4.3.3.3), and the call that gives it.
use Rattle.std.specs.Prelude.{ℕ, Bool, cond, ◌&&◌, List, [], ltb, eqb, ℤ, pos, ◌+ℤ◌, ◌*ℤ◌}
use Rattle.binary.specs.Integers.{signed, word, sum_ℤ_to}
use Rattle.calls.specs.Answers.{Answer, refused, given}
use Rattle.casefile.specs.Case.{Case}
use Rattle.casefile.specs.Decode.{decode}
use Rattle.limits.specs.Refusal.{refusal, most_rows}
use Rattle.conduct.specs.Flags.{fuel_flag}

-- 10 × the event's Q, and its a × b over the union hours of its party-day: an integer, in tenths of a cent
unfoldable pub subtotal_of : Case → ℕ → ℤ
subtotal_of c i =
    pos 10 *ℤ signed 32 (c.events.Q i)
    +ℤ sum_ℤ_to (c.events.hours i) (λ h. cond (fuel_flag c i h) (pos (c.a i h) *ℤ signed 32 (c.events.b i h)) (pos 0))

-- event number i, from 0, is a fuel event's
unfoldable pub is_fuel_event : Case → ℕ → Bool
is_fuel_event c i = ltb i c.events.count && eqb (c.events.kind i) 3

-- the number of the case alone, with no correction and no rows, so that 8 and 15 don't occur; then 10 where the event is no fuel
-- event; else the part, as a signed word of 64 bits
unfoldable pub subtotal_answer : (file : List ℕ) (event : ℕ) → Answer
subtotal_answer f i =
    cond (eqb (refusal f [] (most_rows f)) 0)
    (cond (is_fuel_event (decode f) i) (given (word 64 (subtotal_of (decode f) i))) (refused 10))
    (refused (refusal f [] (most_rows f)))
