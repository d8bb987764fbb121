-- Every run of the call meets demands 1 and 2, and every two runs demand 3.
use Prim.Native.Nat.{ℕ}
use mathlib.Core.Bool.{Bool, true, false}
use mathlib.Core.List.{List}
use mathlib.Core.Logic.{◌⊎◌, inl, inr}
use mathlib.Core.Path.{◌≡◌, refl, ap, ◌∙◌}
use borrow.Author.Tests.{eqb-true, eqb-false, eq-eqb, ne_eqb}
use lib.Dec.{eqb}
use lib.ListN.{length}
use Rattle.limits.specs.Refusal.{limits, refusal, MeetsAll, DecidedBy}
use Rattle.limits.proofs.LimitLaws.{accepted_meets, meets_accepted, refused_decided, decided_refused, decided_number}
use Rattle.settlement.specs.Row.{rows_of}
use Rattle.settlement.specs.Settled.{SettlementAnswer, accepted, answer_of, settlement_of, answer_of_settlement, rows_after, settled}
use Rattle.std.proofs.Common.{Result, Err}
use Rattle.calls.specs.Answers.{refusal_of}
use Rattle.calls.specs.declared.answers.Refusal.{Refusal}
use Rattle.settlement.specs.declared.settle.Settled.{Settled}
use Rattle.settlement.proofs.SettleLaws.{told_answer}
use Rattle.worse_conduct.proofs.WorseConduct.{worse_conduct}
use Rattle.demands.specs.Demands.{Run, Demand1, Demand2, Demand3}

module _ (file correction rows : List ℕ) (answer : Result Settled Refusal) (after : List ℕ) (run : Run file correction rows answer after) where
  -- the answer's number and values
  values : answer_of_settlement answer ≡ answer_of file correction (length rows)
  values = ap answer_of_settlement run.answered ∙ told_answer file correction (length rows)

  is_accepted : refusal file correction (length rows) ≡ 0 → answer_of_settlement answer ≡ accepted file correction
  unfolding answer_of
  is_accepted h = values ∙ rw (eq-eqb _ _ h) refl

  accepts : refusal file correction (length rows) ≡ 0 → answer ≡ settlement_of (accepted file correction)
  unfolding answer_of
  accepts h = run.answered ∙ rw (eq-eqb _ _ h) refl

  refuses : (refusal file correction (length rows) ≡ 0 → ⊥) → answer ≡ Err (refusal_of (refusal file correction (length rows)))
  unfolding answer_of settlement_of
  refuses ne = run.answered ∙ rw (ne_eqb _ _ ne, ne_eqb _ _ ne) refl

  untouched : (refusal file correction (length rows) ≡ 0 → ⊥) → after ≡ rows
  unfolding rows_after
  untouched ne = run.left ∙ rw (ne_eqb _ _ ne) refl

  either : (b : Bool) → eqb (refusal file correction (length rows)) 0 ≡ b
      → MeetsAll (limits file correction (length rows)) ⊎ ((m : ℕ) × DecidedBy (limits file correction (length rows)) m)
  either true e = inl (accepted_meets file correction (length rows) (eqb-true _ 0 e))
  either false e = inr (refusal file correction (length rows), refused_decided file correction (length rows) (eqb-false _ 0 e))

  -- a number that applies is not 0
  applies : (m : ℕ) → DecidedBy (limits file correction (length rows)) m → refusal file correction (length rows) ≡ 0 → ⊥
  applies m b = decided_number file correction (length rows) m b

  pub demand_1 : Demand1 file correction rows answer after
  unfolding accepted settlement_of
  demand_1 =
      record {
        either = either (eqb (refusal file correction (length rows)) 0) refl;
        accepts = λ m. accepts (meets_accepted file correction (length rows) m);
        refuses = λ m b.
            let e = decided_refused file correction (length rows) m b in
            refuses (applies m b) ∙ ap (λ (x : ℕ). Err (refusal_of x)) e;
        untouched = λ m b. untouched (applies m b);
      }

  pub demand_2 : Demand2 file correction rows answer after
  unfolding accepted rows_after rows_of
  demand_2 =
      record {
        rows_stated = λ h. run.left ∙ rw (eq-eqb _ _ h) refl;
        penalties_stated = λ h. ap (λ (a : SettlementAnswer). a.penalties) (is_accepted h);
        make_ups_stated = λ h. ap (λ (a : SettlementAnswer). a.make_ups) (is_accepted h);
      }

  -- a run is the settlement of the definitions
  is_settled : settled file correction rows ≡ record { answer = answer_of_settlement answer; rows = after }
  unfolding settled
  is_settled = rw (values, run.left) refl

pub demand_3 : (file worse correction rows worse_rows : List ℕ) (answer worse_answer : Result Settled Refusal) (after worse_after : List ℕ)
    → Run file correction rows answer after
    → Run worse correction worse_rows worse_answer worse_after
    → Demand3 file worse correction rows worse_rows answer worse_answer after worse_after
demand_3 file worse correction rows worse_rows answer worse_answer after worse_after run run' changes leads takes h h' energy =
    rw (← is_settled file correction rows answer after run, ← is_settled worse correction worse_rows worse_answer worse_after run', ← leads)
    (worse_conduct file correction rows worse_rows changes takes h (rw leads h') energy)
