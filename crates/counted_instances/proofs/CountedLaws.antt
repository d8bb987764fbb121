-- The bits that the code finds are those of the case.
use Prim.Native.Nat.{ℕ, ◌+◌, ◌-◌, ◌*◌, ◌<◌}
use mathlib.Core.Bool.{Bool, true, false, ◌&&◌}
use mathlib.Core.List.{List, ◌++◌}
use mathlib.Core.Path.{◌≡◌, refl, ap, ◌∙◌}
use native.Mathlib.Omega.{arith}
use lib.Dec.{ltb}
use lib.ListN.{length, drop}
use borrow.Author.Tests.{ltb-true, eq-eqb, ne_eqb}
use Rattle.binary.specs.Lists.{list_to}
use Rattle.binary.proofs.MaskLaws.{mask_same}
use Rattle.binary.proofs.ListLaws.{list_same}
use Rattle.casefile.specs.declared.layout.Format.{Format}
use Rattle.casefile.specs.Decode.{format_in, section_of, past_in, case_in, decode}
use Rattle.limits.specs.Refusal.{refusal, most_rows}
use Rattle.limits.specs.StageChecked.{AcceptedFile}
use Rattle.sanctions.specs.StageGiven.{Accepted, FoundMasks}
use Rattle.sanctions.proofs.AcceptedFigures as sanctions
use Rattle.sanctions.proofs.FoundLaws as found_laws
use Rattle.counted_instances.specs.CountedInstances.{counted_here, counted_past, byte_of, event_list_bytes, list_bytes, counted_length, counted_byte, with_counted, instances_answer, instances_out}
use Rattle.counted_instances.specs.StageCounted.{event_counted, entry_counted, byte_in}

-- the same bits make the same byte
byte_same : (p q : ℕ → Bool) → ((j : ℕ) → p j ≡ q j) → (b : ℕ) → byte_of p b ≡ byte_of q b
unfolding byte_of
byte_same p q e b = mask_same 8 _ _ (λ t l. e (8 * b + t))

module _ (f : List ℕ) (acc : AcceptedFile f) (groups leaders masks : List ℕ)
    (found : FoundMasks (decode f) (decode f).events.count groups leaders masks) (i : ℕ) (l : i < (decode f).events.count) where
  accepted : Accepted (format_in f) (section_of f 0) (section_of f 2) (section_of f 3)
  accepted = sanctions.accepted f acc.correction acc.rows_length acc.accepted

  event_is : (k j : ℕ) → event_counted (format_in f) (section_of f 3) groups masks k i j ≡ counted_here (decode f) k i j
  unfolding event_counted counted_here decode case_in
  event_is k j =
      go (ltb j i) refl _ _ _ _
      (found_laws.instance_mask (format_in f) (section_of f 0) (section_of f 1) (section_of f 2) (section_of f 3) groups leaders masks accepted found i l)
      (λ m. found_laws.row_counts_is (format_in f) (section_of f 0) (section_of f 1) (section_of f 2) (section_of f 3) groups leaders masks accepted found i k j l (omega arith))
    where
      go : (b : Bool) → ltb j i ≡ b → (x y v w : Bool) → x ≡ y → (j < i → v ≡ w) → (b && (x && v)) ≡ (y && (b && w))
      go true t x y v w e q = rw (e, q (ltb-true j i t))
      go false t x true v w e q = refl
      go false t x false v w e q = refl

  past_is : (k j : ℕ) → entry_counted (format_in f) (section_of f 2) (section_of f 3) groups masks k i j ≡ counted_past (decode f) k i j
  unfolding entry_counted counted_past decode case_in
  past_is k j =
      go (ltb j (past_in (section_of f 2)).count) _ _ _ _
      (found_laws.instance_mask (format_in f) (section_of f 0) (section_of f 1) (section_of f 2) (section_of f 3) groups leaders masks accepted found i l)
      (found_laws.entry_counts_is (format_in f) (section_of f 0) (section_of f 1) (section_of f 2) (section_of f 3) groups leaders masks accepted found i k j l)
    where
      go : (b x y v w : Bool) → x ≡ y → v ≡ w → (b && (x && v)) ≡ (y && (b && w))
      go true x y v w e q = rw (e, q)
      go false x true v w e q = refl
      go false x false v w e q = refl

  byte_is : (b : ℕ) → byte_in (format_in f) (section_of f 2) (section_of f 3) groups masks i b ≡ counted_byte (decode f) i b
  unfolding byte_in counted_byte
  byte_is b =
      rw (
        byte_same _ _ (event_is 2) b,
        byte_same _ _ (past_is 2) (b - event_list_bytes),
        byte_same _ _ (event_is 1) (b - list_bytes),
        byte_same _ _ (past_is 1) (b - (list_bytes + event_list_bytes)),
      )

  pub counted_put : (format : Format) (p e out old : List ℕ) → format ≡ format_in f → p ≡ section_of f 2 → e ≡ section_of f 3
      → out ≡ list_to counted_length (byte_in format p e groups masks i) ++ drop counted_length old → out ≡ with_counted (decode f) i old
  unfolding with_counted
  counted_put format p e out old ef ep ee q =
      q ∙ rw (ef, ep, ee) (ap (λ (x : List ℕ). x ++ drop counted_length old) (list_same counted_length _ _ (λ b m. byte_is b)))

-- ---- the answer

module _ (f k : List ℕ) (i : ℕ) (out : List ℕ) where
  pub refused_is : (number : ℕ) → number ≡ refusal f k (most_rows f) → (number ≡ 0 → ⊥)
      → (number ≡ instances_answer f k i (length out)) × (out ≡ instances_out f k i out)
  unfolding instances_answer instances_out
  refused_is number e n = (rw (← e, ne_eqb number 0 n), rw (← e, ne_eqb number 0 n, ne_eqb number 0 n))

  module _ (fine : refusal f k (most_rows f) ≡ 0) where
    pub outside_is : ltb i (decode f).events.count ≡ false → (10 ≡ instances_answer f k i (length out)) × (out ≡ instances_out f k i out)
    unfolding instances_answer instances_out
    outside_is t = (rw (eq-eqb _ _ fine, t), rw (eq-eqb _ _ fine, t))

    pub short_is : ltb i (decode f).events.count ≡ true → ltb (length out) counted_length ≡ true
        → (15 ≡ instances_answer f k i (length out)) × (out ≡ instances_out f k i out)
    unfolding instances_answer instances_out
    short_is t s = (rw (eq-eqb _ _ fine, t, s), rw (eq-eqb _ _ fine, t, s))

    pub counted_is : ltb i (decode f).events.count ≡ true → ltb (length out) counted_length ≡ false
        → (0 ≡ instances_answer f k i (length out)) × (with_counted (decode f) i out ≡ instances_out f k i out)
    unfolding instances_answer instances_out
    counted_is t s = (rw (eq-eqb _ _ fine, t, s), rw (eq-eqb _ _ fine, t, s))
