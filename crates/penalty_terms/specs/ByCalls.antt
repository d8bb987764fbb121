-- The figures are those of the row that bears the penalty, and the penalty follows from its terms by the smaller calls (docs/RULES.md, R13).
-- With multiplier 0 there is none. Else the call of the kind, given the multiplier and the flagged hours of a withheld event, the flagged hours
-- of a dispatch event, or E, T and M of a party-day, gives the penalty of that row.
use Rattle.std.specs.Prelude.{ℕ, ◌-◌, ◌^◌, true, cond, List, ◌≡◌, eqb, get_or}
use Rattle.binary.specs.Bounded.{sum_to}
use Rattle.binary.specs.Lists.{list_to}
use Rattle.calls.specs.Answers.{given}
use Rattle.penalty_calls.specs.SanctionCalls.{withheld_penalty_answer, dispatch_penalty_answer, fuel_penalty_answer}
use Rattle.casefile.specs.Layout.{most_hours}
use Rattle.casefile.specs.Case.{Case}
use Rattle.casefile.specs.Decode.{decode}
use Rattle.casefile.specs.Lookup.{together}
use Rattle.conduct.specs.Flags.{flagged}
use Rattle.sanctions.specs.Penalties.{n3, n2, lowest_unit, multiplier, penalty}
use Rattle.penalty_terms.specs.declared.penalty_working.PenaltyWorking.{PenaltyWorking}
use Rattle.penalty_terms.specs.PenaltyWorking.{penalty_working_of}

-- a and b of an hour, 0 where it is not flagged
unfoldable pub flagged_amount : Case → (i h : ℕ) → ℕ
flagged_amount c i h = cond (flagged c i h) (c.a i h) 0

unfoldable pub flagged_revenue : Case → (i h : ℕ) → ℕ
flagged_revenue c i h = cond (flagged c i h) (c.events.b i h) 0

-- the word of 64 bits of a number with that positive and negative part, of which one is 0
unfoldable pub signed_word : (positive negative : ℕ) → ℕ
signed_word p n = cond (eqb n 0) p (2 ^ 64 - n)

-- the terms of the hours, added
abbrev pub hours_added : PenaltyWorking → ℕ
hours_added w = sum_to most_hours (λ h. get_or w.hours h 0)

-- the row is the event's own, of kind 3 that of the lowest unit of its party-day
pub record OfTheRow (c : Case) (i : ℕ) (w : PenaltyWorking) : Type 0 where
  pub own : (c.events.kind i ≡ 3 → ⊥) → w.row ≡ i
  pub lowest : c.events.kind i ≡ 3 → (together c i w.row ≡ true) × (lowest_unit c w.row ≡ true)
  pub multiplier_is : w.multiplier ≡ multiplier c w.row
  pub counts_are : (w.n3 ≡ n3 c w.row) × (w.n2 ≡ n2 c w.row)
  pub penalty_is : w.penalty ≡ penalty c w.row

pub record PenaltyByCalls (c : Case) (i : ℕ) (w : PenaltyWorking) : Type 0 where
  pub of_the_row : OfTheRow c i w
  pub amount : c.events.kind i ≡ 1 → hours_added w ≡ w.amount
  pub revenue : c.events.kind i ≡ 2 → hours_added w ≡ w.revenue
  pub none : w.multiplier ≡ 0 → w.penalty ≡ 0
  pub withheld : c.events.kind i ≡ 1
      → withheld_penalty_answer w.multiplier (list_to most_hours (flagged_amount c i)) (list_to most_hours (c.events.b i)) ≡ given w.penalty
  pub dispatch : c.events.kind i ≡ 2 → w.multiplier ≡ 3
      → dispatch_penalty_answer (list_to most_hours (flagged_revenue c i)) ≡ given w.penalty
  pub fuel : c.events.kind i ≡ 3
      → fuel_penalty_answer (signed_word w.e_positive w.e_negative) w.t w.multiplier ≡ given w.penalty

-- of every working that is given
abbrev pub ByCalls : Type 0
ByCalls =
    (file correction : List ℕ) (event : ℕ)
    → (penalty_working_of file correction event).number ≡ 0
    → PenaltyByCalls (decode file) event (penalty_working_of file correction event)
