-- The figures of one event, from what earlier stages found, are those of the case.
use Prim.Native.Nat.{ℕ, zero, suc, ◌^◌, ◌<◌}
use mathlib.Core.Bool.{Bool, true, false, cond, ◌&&◌, ◌||◌}
use mathlib.Core.List.{List}
use mathlib.Core.Path.{◌≡◌, refl, sym, ap, ◌∙◌}
use native.Mathlib.Nat.{lt_of_le_of_lt}
use native.Mathlib.Omega.{arith}
use lib.Bits.{bit_and, and_le_l}
use lib.Dec.{leb, eqb}
use borrow.Author.Tests.{leb-false, ne_eqb}
use Rattle.casefile.specs.declared.layout.Format.{Format}
use Rattle.binary.specs.Bounded.{sum_to, mask_to, bit_of}
use Rattle.binary.specs.Lists.{list_to}
use Rattle.binary.proofs.Implies.{T→true, cond_same, and_left, or_l, or_r}
use Rattle.binary.proofs.BoundedLaws.{sum_same}
use Rattle.binary.proofs.MaskLaws.{mask_same, mask_lt, mask_bits, bit_mask, bit_of_and}
use Rattle.binary.proofs.ListLaws.{list_same}
use Rattle.tariff.specs.DefaultBidRules.{spanned, span_mask, restores, corrected_bid, corrected_in_force}
use Rattle.casefile.specs.Layout.{most_hours}
use Rattle.casefile.specs.Case.{References, Case}
use Rattle.casefile.specs.Decode.{references_in, events_in, amounts_in, case_in, cells_from, cells_in}
use Rattle.casefile.specs.Lookup.{unit_of, level_of, reference_of, bid_level, reads_correct}
use Rattle.limits.specs.StageLookup.{reads_level, correct_level}
use Rattle.casefile.specs.StageRead.{cell_of}
use Rattle.conduct.specs.Flags.{tight, flagged, flag_mask}
use Rattle.default_bids.specs.Mitigation.{hit, mitigated, mitigated_mask, correct_of, bid_in_force, make_up_tenths, make_up_of}
use Rattle.default_bids.specs.StageFigures.{mitigated_by, fails_with, bid_by, tenths_at, make_up_by}
use Rattle.default_bids.proofs.SpanLaws.{span_same, mask_nothing}

-- ---- components 2 and 4 to 8 never read c

-- a component that does not read c restores no bid
pub restores_none : (component r c : ℕ) → reads_correct component ≡ false → restores component r c ≡ false
unfolding reads_correct restores
restores_none component r c e =
    let p : leb component 1 ≡ false = or_l (leb component 1) (eqb component 3) e in
    let q : eqb component 3 ≡ false = or_r (leb component 1) (eqb component 3) e in
    let l : 1 < component = leb-false component 1 p in
    let n : eqb component 1 ≡ false = ne_eqb component 1 (λ z. omega arith) in
    rw (n, q)

module _ (c : Case) (i : ℕ) (e : reads_level c.events i ≡ false) (k k' : References) where
  pub bid_unread : (h : ℕ) → bid_in_force c k i h ≡ bid_in_force c k' i h
  unfolding bid_in_force corrected_in_force corrected_bid reads_level
  bid_unread h =
      cond_same (eqb (c.events.kind i) 4)
      (λ t.
      let n : reads_correct (c.events.component i) ≡ false = rw (T→true (eqb (c.events.kind i) 4) t) at e in
      rw (restores_none (c.events.component i) (reference_of c i) (correct_of c k i) n, restores_none (c.events.component i) (reference_of c i) (correct_of c k' i) n))
      (λ t. refl)

  pub make_up_unread : make_up_of c k i ≡ make_up_of c k' i
  unfolding make_up_of reads_level reads_correct
  make_up_unread = rw (none (eqb (c.events.kind i) 4) (c.events.component i) e)
    where
      none : (b : Bool) (n : ℕ) → (b && (leb n 1 || eqb n 3)) ≡ false → (b && eqb n 0) ≡ false
      none false n q = refl
      none true zero q = q
      none true (suc n) q = ne_eqb (suc n) 0 (λ z. omega arith)

-- with no references every level is 0
no_references : References
no_references = record { count = 0; unit = λ i. 0; component = λ i. 0; value = λ i. 0 }

level_none : (unit component : ℕ) → 0 ≡ level_of no_references unit component
unfolding level_of no_references
level_none unit component = refl

-- a figure by c that goes by no c where c is not read is found by c where it is read and 0 elsewhere
pub by_read : (c : Case) (correct : References) (i : ℕ) (by : ℕ → ℕ) (figure : References → ℕ) → ((k : References) → by (correct_of c k i) ≡ figure k)
    → (reads_level c.events i ≡ false → (k k' : References) → figure k ≡ figure k')
    → by (correct_level correct c.events i) ≡ figure correct
unfolding correct_level correct_of
by_read c correct i by figure is unread = go (reads_level c.events i) refl
  where
    go : (b : Bool) → reads_level c.events i ≡ b
        → by (cond b (level_of correct (c.events.unit i) (c.events.component i)) 0) ≡ figure correct
    go true e = is correct
    go false e = ap by (level_none (c.events.unit i) (c.events.component i)) ∙ is no_references ∙ unread e no_references correct

-- ---- the figures of event i of a case

mitigated_flags : (c : Case) (i : ℕ) → mitigated_by c.events i (flag_mask c i) ≡ mitigated_mask c i
unfolding mitigated_by mitigated_mask mitigated hit flag_mask span_mask
mitigated_flags c i = go (eqb (c.events.kind i) 4) (eqb (c.events.component i) 1 && eqb (c.events.market i) 0)
  where
    n : ℕ
    n = c.events.hours i

    Q : ℕ
    Q = c.events.Q i

    hits : ℕ
    hits = bit_and (mask_to n (flagged c i)) Q

    bits : (h : ℕ) → h < n → bit_of hits h ≡ (flagged c i h && bit_of Q h)
    bits h l = bit_of_and (mask_to n (flagged c i)) Q h ∙ ap (λ (b : Bool). b && bit_of Q h) (bit_mask n h (flagged c i) l)

    small : hits < 2 ^ n
    small = lt_of_le_of_lt (and_le_l (mask_to n (flagged c i)) Q) (mask_lt n (flagged c i))

    go : (k s : Bool) → cond k (cond s (mask_to n (spanned n (bit_of hits) (c.events.R i))) hits) 0
        ≡ mask_to n (λ h. k && cond s (spanned n (hit c i) (c.events.R i) h) (hit c i h))
    go true true = span_same n (bit_of hits) (hit c i) (c.events.R i) bits
    go true false = sym (mask_bits n hits small) ∙ mask_same n (bit_of hits) (hit c i) bits
    go false s = sym (mask_nothing n)

module _ (format : Format) (u r p s : List ℕ) (i : ℕ) where
  pub mitigated_bit : (h : ℕ) → h < most_hours → bit_of (mitigated_mask (case_in format u r p s) i) h ≡ mitigated (case_in format u r p s) i h
  unfolding mitigated_mask case_in events_in
  mitigated_bit h l = bit_mask most_hours h (mitigated (case_in format u r p s) i) l

  pub mitigated_by_is : (flags : ℕ) → flags ≡ flag_mask (case_in format u r p s) i → mitigated_by (events_in format s) i flags ≡ mitigated_mask (case_in format u r p s) i
  unfolding case_in
  mitigated_by_is flags e = rw e (mitigated_flags (case_in format u r p s) i)

  bid_is : (k : References) (h : ℕ) → h < most_hours
      → bid_by format u s (unit_of (case_in format u r p s) i) (bid_level (references_in format r) (events_in format s) i) (correct_of (case_in format u r p s) k i) (mitigated_mask (case_in format u r p s) i) i h
      ≡ bid_in_force (case_in format u r p s) k i h
  unfolding bid_by fails_with bid_in_force corrected_in_force tight reference_of bid_level case_in
  bid_is k h l = cond_same (eqb ((events_in format s).kind i) 4) (λ t. rw (T→true (eqb ((events_in format s).kind i) 4) t, mitigated_bit h l)) (λ t. refl)

  pub tenths_are : (k : References)
      → sum_to most_hours (tenths_at (cells_from format s i) (correct_of (case_in format u r p s) k i) (mitigated_mask (case_in format u r p s) i))
      ≡ make_up_tenths (case_in format u r p s) k i
  unfolding make_up_tenths tenths_at cell_of case_in events_in amounts_in cells_in
  tenths_are k = sum_same most_hours _ _ (λ h l. rw (mitigated_bit h l))

  make_up_is : (k : References)
      → make_up_by format s i (bid_level (references_in format r) (events_in format s) i) (correct_of (case_in format u r p s) k i) (mitigated_mask (case_in format u r p s) i)
      ≡ make_up_of (case_in format u r p s) k i
  unfolding make_up_by make_up_of reference_of bid_level case_in
  make_up_is k =
      cond_same (eqb ((events_in format s).kind i) 4 && eqb ((events_in format s).component i) 0)
      (λ t. rw (T→true (eqb ((events_in format s).kind i) 4) (and_left (eqb ((events_in format s).kind i) 4) (eqb ((events_in format s).component i) 0) t), tenths_are k))
      (λ t. refl)

  module _ (correct : References) where
    -- the bids in force of event i, from its unit's place, r, c and its mitigated mask
    pub bids_by : (place level k mask : ℕ) → place ≡ unit_of (case_in format u r p s) i → level ≡ bid_level (references_in format r) (events_in format s) i
        → k ≡ correct_level correct (events_in format s) i → mask ≡ mitigated_mask (case_in format u r p s) i
        → list_to most_hours (bid_by format u s place level k mask i) ≡ list_to most_hours (bid_in_force (case_in format u r p s) correct i)
    unfolding case_in
    bids_by place level k mask eplace elevel ek emask =
        list_same most_hours _ _
        (λ h l.
        rw (eplace, elevel, ek, emask)
        (by_read (case_in format u r p s) correct i (λ x. bid_by format u s (unit_of (case_in format u r p s) i) (bid_level (references_in format r) (events_in format s) i) x (mitigated_mask (case_in format u r p s) i) i h)
        (λ x. bid_in_force (case_in format u r p s) x i h) (λ x. bid_is x h l)
        (λ e x y. bid_unread (case_in format u r p s) i e x y h)))

    -- its make-up, from r, c and its mitigated mask
    pub make_up_by_is : (level k mask : ℕ) → level ≡ bid_level (references_in format r) (events_in format s) i → k ≡ correct_level correct (events_in format s) i
        → mask ≡ mitigated_mask (case_in format u r p s) i → make_up_by format s i level k mask ≡ make_up_of (case_in format u r p s) correct i
    unfolding case_in
    make_up_by_is level k mask elevel ek emask =
        rw (elevel, ek, emask)
        (by_read (case_in format u r p s) correct i (λ x. make_up_by format s i (bid_level (references_in format r) (events_in format s) i) x (mitigated_mask (case_in format u r p s) i))
        (λ x. make_up_of (case_in format u r p s) x i) make_up_is (λ e x y. make_up_unread (case_in format u r p s) i e x y))
