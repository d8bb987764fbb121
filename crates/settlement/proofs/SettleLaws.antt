-- From the check's number to what the stages lean on, and from what they leave to the answer and the rows buffer.
use Prim.Native.Nat.{ℕ, ◌*◌, ◌<◌}
use mathlib.Core.Bool.{Bool, true, false, cond}
use mathlib.Core.List.{List, ◌++◌}
use mathlib.Core.Path.{◌≡◌, refl, ap, ◌∙◌}
use borrow.Author.Tests.{eq-eqb, ne_eqb}
use lib.Dec.{eqb}
use lib.ListN.{length, drop}
use Rattle.binary.specs.Bytes.{bytes_of}
use Rattle.binary.specs.Lists.{list_to}
use Rattle.binary.proofs.BoundedLaws.{sum_same}
use Rattle.binary.proofs.ListLaws.{list_at, join_same}
use Rattle.casefile.specs.declared.layout.Format.{Format}
use Rattle.casefile.specs.Layout.{most_hours, row_width}
use Rattle.casefile.specs.Decode.{format_in, section_of, references_in, events_in, case_in, decode}
use Rattle.casefile.specs.Lookup.{unit_of, bid_level, correct_references, correct_in}
use Rattle.limits.specs.StageLookup.{correct_level}
use Rattle.limits.specs.Refusal.{refusal}
use Rattle.limits.specs.StageChecked.{HandedOn}
use Rattle.conduct.specs.Flags.{flag_mask}
use Rattle.sanctions.specs.declared.sanction.Sanction.{Sanction}
use Rattle.sanctions.specs.Penalties.{total_penalty}
use Rattle.sanctions.specs.StageTables.{sanction_of}
use Rattle.default_bids.specs.Mitigation.{mitigated_mask, bid_in_force, make_up_of, total_make_up}
use Rattle.default_bids.specs.StageFigures.{mitigated_by, bid_by}
use Rattle.default_bids.proofs.FigureLaws.{mitigated_by_is, bids_by, make_up_by_is}
use Rattle.case_rows.specs.declared.rows.Totals.{Totals}
use Rattle.case_rows.specs.StageRow.{word_of, words_of, written_row, row_by}
use Rattle.case_rows.specs.StageRows.{row_in, rows_in, totals_in}
use Rattle.settlement.specs.Row.{bid_bytes, row_of, rows_of}
use Rattle.settlement.specs.Settled.{SettlementAnswer, refused_answer, answer_of_settlement, settlement_of, accepted, answer_of, rows_after}
use Rattle.std.proofs.Common.{Ok, Err}
use Rattle.calls.specs.Answers.{refusal_of}

-- the number of a refusal that is not 0
pub refused_answer_is : (f k : List ℕ) (n number : ℕ) → number ≡ refusal f k n → (number ≡ 0 → ⊥) → refused_answer number ≡ answer_of f k n
unfolding answer_of
refused_answer_is f k n number e ne = rw (← e, ne_eqb number 0 ne) refl

-- the answer's case is told by its number
pub refused_told : (n : ℕ) (a : SettlementAnswer) → refused_answer n ≡ a → (n ≡ 0 → ⊥) → Err (refusal_of n) ≡ settlement_of a
unfolding settlement_of
refused_told n a e ne = rw (← e, ne_eqb n 0 ne) refl

pub settled_told : (n p m : ℕ) (a : SettlementAnswer) → record { number = 0; row_count = n; penalties = p; make_ups = m } ≡ a
    → Ok (record { rows = n; penalties = p; make_ups = m }) ≡ settlement_of a
unfolding settlement_of
settled_told n p m a e = rw (← e) refl

-- and so the answer's number and values are those of the case that the call answers with
pub told_answer : (f k : List ℕ) (n : ℕ) → answer_of_settlement (settlement_of (answer_of f k n)) ≡ answer_of f k n
unfolding answer_of accepted settlement_of
told_answer f k n = go (eqb (refusal f k n) 0) refl
  where
    go : (b : Bool) → eqb (refusal f k n) 0 ≡ b
        → answer_of_settlement (settlement_of (cond b (accepted f k) (refused_answer (refusal f k n)))) ≡ cond b (accepted f k) (refused_answer (refusal f k n))
    go true e = refl
    go false e = rw e refl

pub refused_rows : (f k rows : List ℕ) (number : ℕ) → number ≡ refusal f k (length rows) → (number ≡ 0 → ⊥) → rows ≡ rows_after f k rows
unfolding rows_after
refused_rows f k rows number e ne = rw (← e, ne_eqb number 0 ne) refl

-- ---- from the tables that the check filled to the case

module _ (format : Format) (u r p k e : List ℕ) (i x y : ℕ) (level : x ≡ bid_level (references_in format r) (events_in format e) i) (correct : y ≡ correct_level (references_in format k) (events_in format e) i) where
  mitigated_is : mitigated_by (events_in format e) i (flag_mask (case_in format u r p e) i) ≡ mitigated_mask (case_in format u r p e) i
  mitigated_is = mitigated_by_is format u r p e i (flag_mask (case_in format u r p e) i) refl

  bids_are : words_of (list_to most_hours (bid_by format u e (unit_of (case_in format u r p e) i) x y (mitigated_mask (case_in format u r p e) i) i)) ≡ bid_bytes (case_in format u r p e) (references_in format k) i
  unfolding words_of word_of bid_bytes
  bids_are =
      ap words_of (bids_by format u r p e i (references_in format k) _ x y _ refl level correct refl)
      ∙ join_same most_hours _ _ (λ h l. ap (bytes_of 4) (list_at (bid_in_force (case_in format u r p e) (references_in format k) i) most_hours h 0 l))

  due_by : (s : Sanction) → (row_by format u e (unit_of (case_in format u r p e) i) x y (flag_mask (case_in format u r p e) i) s i).make_up ≡ make_up_of (case_in format u r p e) (references_in format k) i
  unfolding row_by
  due_by s = make_up_by_is format u r p e i (references_in format k) x y _ level correct mitigated_is

  row_by_is : written_row (row_by format u e (unit_of (case_in format u r p e) i) x y (flag_mask (case_in format u r p e) i) (sanction_of (case_in format u r p e) i) i)
      ≡ row_of (case_in format u r p e) (references_in format k) i
  unfolding written_row row_by row_of
  row_by_is = rw (mitigated_is, make_up_by_is format u r p e i (references_in format k) x y _ level correct refl, bids_are)

module _ (f k places levels corrects : List ℕ) (h : HandedOn f k places levels corrects) where
  row_is : (i : ℕ) → i < (decode f).events.count → written_row (row_in f levels corrects i) ≡ row_of (decode f) (correct_in f k) i
  unfolding row_in decode case_in correct_in
  row_is i l =
      row_by_is (format_in f) (section_of f 0) (section_of f 1) (section_of f 2) (correct_references k (section_of f 1)) (section_of f 3) i _ _ (h.levelled i l) (h.corrected i l)

  due_is : (i : ℕ) → i < (decode f).events.count → (row_in f levels corrects i).make_up ≡ make_up_of (decode f) (correct_in f k) i
  unfolding row_in decode case_in correct_in
  due_is i l =
      due_by (format_in f) (section_of f 0) (section_of f 1) (section_of f 2) (correct_references k (section_of f 1)) (section_of f 3) i _ _ (h.levelled i l) (h.corrected i l) _

  totals_are : (totals_in f levels corrects).make_ups ≡ total_make_up (decode f) (correct_in f k)
  unfolding totals_in total_make_up
  totals_are = sum_same (decode f).events.count _ _ due_is

  penalties_are : (totals_in f levels corrects).penalties ≡ total_penalty (decode f)
  unfolding totals_in
  penalties_are = refl

  answer_is : record { number = 0; row_count = (decode f).events.count; penalties = (totals_in f levels corrects).penalties; make_ups = (totals_in f levels corrects).make_ups } ≡ accepted f k
  unfolding accepted
  answer_is = rw (totals_are, penalties_are) refl

  pub settled_answer : (n count : ℕ) (t : Totals) → refusal f k n ≡ 0 → count ≡ (decode f).events.count → t ≡ totals_in f levels corrects
      → record { number = 0; row_count = count; penalties = t.penalties; make_ups = t.make_ups } ≡ answer_of f k n
  unfolding answer_of
  settled_answer n count t e c g = rw (eq-eqb _ _ e, c, g) answer_is

  pub settled_rows : (rows after : List ℕ) → refusal f k (length rows) ≡ 0 → after ≡ rows_in f levels corrects rows → after ≡ rows_after f k rows
  unfolding rows_after rows_in rows_of
  settled_rows rows after e g = rw (eq-eqb _ _ e) (g ∙ ap (λ (x : List ℕ). x ++ drop (row_width (format_in f) * (decode f).events.count) rows) (join_same (decode f).events.count _ _ row_is))
