-- The parts of a party-day add to the E that its penalty is made of (docs/RULES.md, R16; tariff 23.4.3.3.3).
use Rattle.std.specs.Prelude.{ℕ, ◌<◌, true, List, ◌≡◌}
use Rattle.binary.specs.Integers.{signed, word}
use Rattle.calls.specs.Answers.{given}
use Rattle.penalty_calls.specs.SanctionCalls.{fuel_penalty_answer}
use Rattle.casefile.specs.Decode.{decode}
use Rattle.casefile.specs.Lookup.{together}
use Rattle.limits.specs.Refusal.{refusal}
use Rattle.sanctions.specs.Penalties.{party_day_sum, party_day_e, tcc_change, lowest_unit, multiplier, penalty}
use Rattle.subtotal.specs.Subtotal.{subtotal_of, subtotal_answer}

-- the call gives the part of event j of the file, and the word that it gives has the part's value
pub record PartGiven (f : List ℕ) (j : ℕ) : Type 0 where
  pub answer : subtotal_answer f j ≡ given (word 64 (subtotal_of (decode f) j))
  pub value : signed 64 (word 64 (subtotal_of (decode f) j)) ≡ subtotal_of (decode f) j

-- of the party-day of event i
pub record PartsAdd (f : List ℕ) (i : ℕ) : Type 0 where
  -- the call gives the part of each of its events
  pub each : (j : ℕ) → j < (decode f).events.count → together (decode f) i j ≡ true → PartGiven f j
  -- they add to E, as integers
  pub sum : party_day_sum (decode f) i (subtotal_of (decode f)) ≡ party_day_e (decode f) i
  -- where event i is of its lowest unit, the smaller call gives the penalty of its row from their sum, T and M
  pub penalty_of : lowest_unit (decode f) i ≡ true
      → fuel_penalty_answer (word 64 (party_day_sum (decode f) i (subtotal_of (decode f)))) (tcc_change (decode f) i) (multiplier (decode f) i)
      ≡ given (penalty (decode f) i)

-- for every accepted case and every party-day
abbrev pub AddToE : Type 0
AddToE =
    (file correction : List ℕ) (rows_length i : ℕ)
    → refusal file correction rows_length ≡ 0
    → i < (decode file).events.count
    → (decode file).events.kind i ≡ 3
    → PartsAdd file i
