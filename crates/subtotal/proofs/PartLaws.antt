-- What the code finds is the part of the case.
use Prim.Native.Nat.{ℕ, ◌<◌}
use mathlib.Core.Bool.{true, false, ◌&&◌}
use mathlib.Core.List.{List, []}
use mathlib.Core.Path.{◌≡◌, refl}
use Rattle.std.specs.Prelude.{Ok, Err}
use lib.Dec.{ltb, eqb}
use lib.IntN.{sub_ℕ}
use borrow.Author.Tests.{eqb-true, eq-eqb, ne_eqb, ltb-true}
use Rattle.binary.specs.Integers.{word}
use Rattle.binary.specs.Word.{positive_part, negative_part}
use Rattle.binary.proofs.Implies.{and_l, and_r}
use Rattle.calls.specs.Answers.{refusal_of, figure_of}
use Rattle.casefile.specs.declared.layout.Format.{Format}
use Rattle.casefile.specs.declared.events.Event.{Event}
use Rattle.casefile.specs.Case.{Case}
use Rattle.casefile.specs.Decode.{format_in, section_of, cells_from, events_in, case_in, decode}
use Rattle.casefile.specs.StageRead.{event_at}
use Rattle.limits.specs.Refusal.{refusal, most_rows}
use Rattle.limits.specs.StageChecked.{AcceptedFile}
use Rattle.conduct.specs.Flags.{flag_mask}
use Rattle.conduct.proofs.SumLaws.{cell_amount}
use Rattle.sanctions.specs.Penalties.{energy_part}
use Rattle.sanctions.specs.StageGiven.{Accepted, SmallAmounts}
use Rattle.sanctions.specs.StageTables.{energy_in}
use Rattle.sanctions.proofs.AcceptedFigures as sanctions
use Rattle.sanctions.proofs.EnergyLaws.{part_less}
use Rattle.sanctions.proofs.FoundLaws.{energy_by}
use Rattle.subtotal.specs.Subtotal.{subtotal_of, is_fuel_event, subtotal_answer}

-- the part as gain less loss
pub own_less : (c : Case) (i : ℕ) → subtotal_of c i ≡ sub_ℕ (energy_part (positive_part 32) c i i) (energy_part (negative_part 32) c i i)
unfolding subtotal_of
own_less c i = part_less c i i

-- ---- an accepted case

module _ (f : List ℕ) (acc : AcceptedFile f) (i : ℕ) (l : i < (decode f).events.count) (kind : (decode f).events.kind i ≡ 3)
    (format : Format) (e : List ℕ) (ef : format ≡ format_in f) (ee : e ≡ section_of f 3) where
  accepted : Accepted (format_in f) (section_of f 0) (section_of f 2) (section_of f 3)
  accepted = sanctions.accepted f acc.correction acc.rows_length acc.accepted

  -- its amounts leave room for their sums
  pub small : SmallAmounts (cells_from format e i)
  unfolding decode case_in events_in
  small h m =
      rw (ef, ee, cell_amount (format_in f) (section_of f 3) i h)
      ((sanctions.ranges (format_in f) (section_of f 0) (section_of f 2) (section_of f 3) accepted (section_of f 1)).fuel i h l m kind).0

  -- over the hours of its flag mask
  pub part_is : (event : Event) (cells : List ℕ) (mask : ℕ) → event ≡ event_at (events_in format e) i → cells ≡ cells_from format e i → mask ≡ flag_mask (decode f) i
      → word 64 (sub_ℕ (energy_in (positive_part 32) event.q cells mask) (energy_in (negative_part 32) event.q cells mask)) ≡ word 64 (subtotal_of (decode f) i)
  unfolding event_at decode case_in
  part_is event cells mask eq ec em =
      rw (
        eq,
        ec,
        ef,
        ee,
        own_less (decode f) i,
        energy_by (format_in f) (section_of f 0) (section_of f 1) (section_of f 2) (section_of f 3) (positive_part 32) i i mask em kind,
        energy_by (format_in f) (section_of f 0) (section_of f 1) (section_of f 2) (section_of f 3) (negative_part 32) i i mask em kind,
      )

-- whether the event number is a fuel event's, as the code asks it
pub fuel_is : (f : List ℕ) (i : ℕ) (format : Format) (e : List ℕ) → format ≡ format_in f → e ≡ section_of f 3
    → (ltb i (events_in format e).count && eqb ((events_in format e).kind i) 3) ≡ is_fuel_event (decode f) i
unfolding is_fuel_event decode case_in
fuel_is f i format e ef ee = rw (ef, ee)

pub fuel_event : (c : Case) (i : ℕ) → is_fuel_event c i ≡ true → (i < c.events.count) × (c.events.kind i ≡ 3)
unfolding is_fuel_event
fuel_event c i t =
    let a = and_l (ltb i c.events.count) (eqb (c.events.kind i) 3) t in
    let b = and_r (ltb i c.events.count) (eqb (c.events.kind i) 3) t in
    (ltb-true _ _ a, eqb-true _ 3 b)

-- ---- the answer

module _ (f : List ℕ) (i : ℕ) where
  pub refused_is : (number : ℕ) → number ≡ refusal f [] (most_rows f) → (number ≡ 0 → ⊥) → Err (refusal_of number) ≡ figure_of (subtotal_answer f i)
  unfolding figure_of subtotal_answer
  refused_is number e n = rw (← e, ne_eqb number 0 n) refl

  pub given_is : (x : ℕ) → refusal f [] (most_rows f) ≡ 0 → is_fuel_event (decode f) i ≡ true → x ≡ word 64 (subtotal_of (decode f) i)
      → Ok x ≡ figure_of (subtotal_answer f i)
  unfolding figure_of subtotal_answer
  given_is x fine t e = rw (eq-eqb _ _ fine, t, e)

  pub other_is : refusal f [] (most_rows f) ≡ 0 → is_fuel_event (decode f) i ≡ false → Err (refusal_of 10) ≡ figure_of (subtotal_answer f i)
  unfolding figure_of subtotal_answer
  other_is fine t = rw (eq-eqb _ _ fine, t)
