-- From the call's answer to the listing's text.
use Prim.Native.Nat.{ℕ, ◌*◌, ◌≤◌, ◌<◌}
use mathlib.Core.Bool.{Bool, true, false, cond}
use mathlib.Core.List.{List, [], ◌++◌}
use mathlib.Core.Path.{◌≡◌, refl, sym, ap, ◌∙◌}
use native.Mathlib.Omega.{arith}
use borrow.Author.Tests.{eqb-true, eq-eqb, ne_eqb, lt-ltb, le-ltb}
use lib.Dec.{ltb, eqb}
use lib.ListN.{length, take}
use lib.Seq.{length-take-le}
use Rattle.casefile.specs.declared.layout.Format.{Format}
use Rattle.casefile.specs.Layout.{row_width, most_events}
use Rattle.casefile.specs.Case.{Events}
use Rattle.casefile.specs.Decode.{format_in, section_of, decode, case_in, events_in}
use Rattle.limits.specs.Refusal.{refusal}
use Rattle.limits.proofs.AcceptedLaws as case
use Rattle.std.proofs.Common.{Result, Ok, Err}
use Rattle.calls.specs.Answers.{number_of, refusal_of}
use Rattle.calls.specs.declared.answers.Refusal.{Refusal}
use Rattle.settlement.proofs.SettleLaws.{told_answer}
use Rattle.settlement.specs.declared.settle.Settled as settle
use Rattle.settlement.specs.Settled.{SettlementAnswer, refused_answer, accepted, settlement_of, answer_of_settlement, answer_of, rows_after}
use Rattle.report.specs.Line.{lines_to}
use Rattle.report.specs.Listing.{longest_listing, refusal_text, total_text, text_of, listing_of, listed_length, listed_out, listed_rows}
use Rattle.report.specs.StagePut.{Put}

-- a refusal has a number that is not 0, and a settlement its values
refused_text : (a : SettlementAnswer) (refusal : Refusal) (format : Format) (events : Events) (rows : List ℕ) → Err refusal ≡ settlement_of a
    → text_of a format events rows ≡ refusal_text (number_of refusal)
unfolding settlement_of text_of
refused_text a refusal format events rows e = go (eqb a.number 0) e
  where
    go : (b : Bool)
        → ◌≡◌ {A = Result settle.Settled Refusal} (Err refusal) (cond b (Ok (record { rows = a.row_count; penalties = a.penalties; make_ups = a.make_ups })) (Err (refusal_of a.number)))
        → cond b (lines_to format a.row_count events rows ++ total_text a.penalties a.make_ups) (refusal_text a.number) ≡ refusal_text (number_of refusal)
    go true q = cc
    go false q = let z : refusal_of a.number ≡ refusal = cc in ap (λ (r : Refusal). refusal_text (number_of r)) z

pub record Values (a : SettlementAnswer) (s : settle.Settled) : Type 0 where
  pub number : a.number ≡ 0
  pub rows : a.row_count ≡ s.rows
  pub penalties : a.penalties ≡ s.penalties
  pub make_ups : a.make_ups ≡ s.make_ups

settled_values : (a : SettlementAnswer) (s : settle.Settled) → answer_of_settlement (Ok s) ≡ a → Values a s
settled_values a s e =
    record {
      number = ap (λ (x : SettlementAnswer). x.number) (sym e);
      rows = ap (λ (x : SettlementAnswer). x.row_count) (sym e);
      penalties = ap (λ (x : SettlementAnswer). x.penalties) (sym e);
      make_ups = ap (λ (x : SettlementAnswer). x.make_ups) (sym e);
    }

answer_number : (f k : List ℕ) (n : ℕ) → (answer_of f k n).number ≡ refusal f k n
unfolding answer_of accepted
answer_number f k n = go (eqb (refusal f k n) 0) refl
  where
    go : (b : Bool) → eqb (refusal f k n) 0 ≡ b → (cond b (accepted f k) (refused_answer (refusal f k n))).number ≡ refusal f k n
    go true t = sym (eqb-true (refusal f k n) 0 t)
    go false t = refl

answer_rows : (f k : List ℕ) (n : ℕ) → refusal f k n ≡ 0 → (answer_of f k n).row_count ≡ (decode f).events.count
unfolding answer_of accepted
answer_rows f k n h = rw (eq-eqb _ _ h) refl

module _ (f rows : List ℕ) (s : settle.Settled) (e : Ok s ≡ settlement_of (answer_of f [] (length rows))) where
  values : Values (answer_of f [] (length rows)) s
  values = settled_values (answer_of f [] (length rows)) s (ap answer_of_settlement e ∙ told_answer f [] (length rows))

  pub fine : refusal f [] (length rows) ≡ 0
  fine = sym (answer_number f [] (length rows)) ∙ values.number

  all_rows : s.rows ≡ (decode f).events.count
  all_rows = sym values.rows ∙ answer_rows f [] (length rows) fine

  pub count : (format : Format) (events : List ℕ) → format ≡ format_in f → events ≡ section_of f 3 → s.rows ≡ (events_in format events).count
  unfolding decode case_in
  count format events ef ee = rw (ef, ee) all_rows

  pub few : s.rows ≤ most_events
  few = omega (arith, all_rows, case.events_count f [] (length rows) fine)

  pub rows_long : row_width (format_in f) * s.rows ≤ length rows
  rows_long = omega (arith, all_rows, case.rows_long f [] (length rows) fine)

  settled_text : listing_of f rows ≡ lines_to (format_in f) s.rows (events_in (format_in f) (section_of f 3)) (rows_after f [] rows) ++ total_text s.penalties s.make_ups
  unfolding listing_of text_of decode case_in
  settled_text = rw (values.number, values.rows, values.penalties, values.make_ups) refl

-- what was put is what the call promises, where out is long enough
module _ (f rows out : List ℕ) (long : longest_listing ≤ length out) where
  listed : (text new : List ℕ) (r : ℕ) → listing_of f rows ≡ text → Put out 0 text new r
      → (r ≡ listed_length f rows out) × (new ≡ listed_out f rows out)
  unfolding listed_length listed_out
  listed text new r e q =
      let t : ltb (length out) longest_listing ≡ false = le-ltb (length out) longest_listing long in
      (rw (t, e) (omega (arith, q.place)), rw (t, e) q.content)

  pub listed_refusal : (refusal : Refusal) (k r : ℕ) (new : List ℕ) → k ≡ number_of refusal → Err refusal ≡ settlement_of (answer_of f [] (length rows))
      → Put out 0 (refusal_text k) new r → (r ≡ listed_length f rows out) × (new ≡ listed_out f rows out)
  unfolding listing_of
  listed_refusal refusal k r new g e q =
      listed (refusal_text k) new r
      (refused_text (answer_of f [] (length rows)) refusal _ _ _ e ∙ ap refusal_text (sym g)) q

  pub listed_settlement : (s : settle.Settled) (r : ℕ) (format : Format) (events after new : List ℕ) → Ok s ≡ settlement_of (answer_of f [] (length rows))
      → format ≡ format_in f → events ≡ section_of f 3 → after ≡ rows_after f [] rows
      → Put out 0 (lines_to format s.rows (events_in format events) after ++ total_text s.penalties s.make_ups) new r
      → (r ≡ listed_length f rows out) × (new ≡ listed_out f rows out)
  listed_settlement s r format events after new e ef ee t q =
      listed (lines_to format s.rows (events_in format events) after ++ total_text s.penalties s.make_ups) new r (settled_text f rows s e ∙ rw (ef, ee, t) refl) q

  pub listed_rows_is : (after : List ℕ) → after ≡ rows_after f [] rows → after ≡ listed_rows f rows out
  unfolding listed_rows
  listed_rows_is after e = rw (le-ltb (length out) longest_listing long) e

-- where out is too short nothing is put
pub short : (f rows out : List ℕ) → length out < longest_listing
    → (0 ≡ listed_length f rows out) × (out ≡ listed_out f rows out) × (rows ≡ listed_rows f rows out)
unfolding listed_length listed_out listed_rows
short f rows out h = let t = lt-ltb (length out) longest_listing h in (rw t refl, rw t refl, rw t refl)

-- a length within a buffer, as `&out[..length]` asks
pub counted : (r : ℕ) (out : List ℕ) → r ≤ length out → (r ≤ length out) × (r ≡ length (take r out))
counted r out h = (h, sym (length-take-le r out h))
