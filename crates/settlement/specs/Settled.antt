-- What settling a case answers and leaves in the rows buffer, also where the case is refused (docs/RULES.md, R
-- and L).
use Rattle.std.specs.Prelude.{ℕ, cond, List, eqb, length, Result, Ok, Err}
use Rattle.casefile.specs.Decode.{format_in, decode}
use Rattle.casefile.specs.Lookup.{correct_in}
use Rattle.limits.specs.Refusal.{refusal}
use Rattle.sanctions.specs.Penalties.{total_penalty}
use Rattle.default_bids.specs.Mitigation.{total_make_up}
use Rattle.settlement.specs.Row.{rows_of}
use Rattle.calls.specs.declared.answers.Refusal.{Refusal}
use Rattle.settlement.specs.declared.settle.Settled as settle

-- the refusal's number, 0 where the case is accepted; the row count; the totals of penalties and of make-ups
pub record SettlementAnswer : Type 0 where
  pub number : ℕ
  pub row_count : ℕ
  pub penalties : ℕ
  pub make_ups : ℕ

abbrev pub refused_answer : (number : ℕ) → SettlementAnswer
refused_answer n = record { number = n; row_count = 0; penalties = 0; make_ups = 0 }

-- the number and the values of each of the call's answers
abbrev pub answer_of_settlement : Result settle.Settled Refusal → SettlementAnswer
answer_of_settlement (Err r) = refused_answer r.number
answer_of_settlement (Ok s) = record { number = 0; row_count = s.rows; penalties = s.penalties; make_ups = s.make_ups }

-- the call's answer: a refusal exactly where the number is not 0
unfoldable pub settlement_of : SettlementAnswer → Result settle.Settled Refusal
settlement_of a =
    cond (eqb a.number 0) (Ok (record { rows = a.row_count; penalties = a.penalties; make_ups = a.make_ups })) (Err (record { number = a.number }))

unfoldable pub accepted : (file correction : List ℕ) → SettlementAnswer
accepted f k =
    record {
      number = 0;
      row_count = (decode f).events.count;
      penalties = total_penalty (decode f);
      make_ups = total_make_up (decode f) (correct_in f k);
    }

-- the answer, for a rows buffer of that length
unfoldable pub answer_of : (file correction : List ℕ) (rows_length : ℕ) → SettlementAnswer
answer_of f k n = cond (eqb (refusal f k n) 0) (accepted f k) (refused_answer (refusal f k n))

-- the rows buffer afterwards; a refusal leaves it untouched
unfoldable pub rows_after : (file correction rows : List ℕ) → List ℕ
rows_after f k rows = cond (eqb (refusal f k (length rows)) 0) (rows_of (format_in f) (decode f) (correct_in f k) rows) rows

-- a settlement whole
pub record Settled : Type 0 where
  pub answer : SettlementAnswer
  pub rows : List ℕ

unfoldable pub settled : (file correction rows : List ℕ) → Settled
settled f k rows = record { answer = answer_of f k (length rows); rows = rows_after f k rows }
