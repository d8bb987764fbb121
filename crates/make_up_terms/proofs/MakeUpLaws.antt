-- What the code finds is the working of the case.
use Prim.Native.Nat.{ℕ, zero, suc}
use mathlib.Core.Bool.{Bool, true, false, cond, not, ◌&&◌, ◌||◌, and-false}
use mathlib.Core.List.{List}
use mathlib.Core.Path.{◌≡◌, refl, sym, ap, ap₂, ◌∙◌}
use native.Mathlib.Omega.{arith}
use lib.Dec.{ltb, leb, eqb}
use lib.ListN.{replicate}
use borrow.Author.Tests.{eq-eqb, ne_eqb}
use Rattle.binary.specs.Bounded.{sum_to, mask_to, bit_of}
use Rattle.binary.specs.Lists.{list_to}
use Rattle.binary.proofs.MaskLaws.{mask_same, bit_mask}
use Rattle.binary.proofs.ListLaws.{list_same}
use Rattle.tariff.specs.DefaultBidRules.{restores}
use Rattle.casefile.specs.declared.layout.Format.{Format}
use Rattle.casefile.specs.Layout.{most_hours}
use Rattle.casefile.specs.Case.{References, Case}
use Rattle.casefile.specs.Decode.{format_in, section_of, references_in, cells_from, cells_in, events_in, amounts_in, case_in, decode}
use Rattle.casefile.specs.StageRead.{cell_of}
use Rattle.casefile.specs.Lookup.{unit_of, bid_level, reads_correct, correct_in}
use Rattle.limits.specs.Refusal.{events_fine, refusal, most_rows}
use Rattle.limits.specs.StageLookup.{reads_level, correct_level}
use Rattle.limits.specs.StageChecked.{AcceptedFile}
use Rattle.limits.proofs.AcceptedLaws as case
use Rattle.conduct.specs.Flags.{tight, flag_mask}
use Rattle.default_bids.specs.Mitigation.{mitigated, mitigated_mask, correct_of, make_up_tenths}
use Rattle.default_bids.specs.StageFigures.{mitigated_by, fails_with, tenths_at, make_up_by}
use Rattle.default_bids.proofs.SpanLaws.{mask_nothing}
use Rattle.default_bids.proofs.FigureLaws.{restores_none, by_read, mitigated_bit, mitigated_by_is, tenths_are, make_up_by_is}
use Rattle.make_up_terms.specs.declared.make_up_working.MakeUpTerms.{MakeUpTerms}
use Rattle.make_up_terms.specs.MakeUpWorking.{correct_read, restored, energy_bid, hour_make_up_tenths, make_up_working_at, refused_make_up, make_up_working_of}
use Rattle.make_up_terms.specs.StageMakeUp.{restored_in, restored_by, terms_by, make_up_working_in}

-- ---- restored hours

-- the hours that fail, as a mask
pub restored_mask : (format : Format) (u s : List ℕ) (place c mitigated i : ℕ)
    → mask_to most_hours (restored_in mitigated (mask_to most_hours (fails_with format u s place c i)))
    ≡ mask_to most_hours (λ h. bit_of mitigated h && not (fails_with format u s place c i h))
unfolding restored_in
restored_mask format u s place c mitigated i =
    mask_same most_hours _ _ (λ h l. rw (bit_mask most_hours h (fails_with format u s place c i) l))

-- a mask that hangs on a test
mask_where : (n : ℕ) (x : Bool) (m f : ℕ → Bool) → cond x (mask_to n (λ h. m h && not (f h))) 0 ≡ mask_to n (λ h. m h && (x && not (f h)))
mask_where n true m f = refl
mask_where n false m f = sym (mask_same n _ (λ (h : ℕ). false) (λ h l. and-false (m h)) ∙ mask_nothing n)

-- no hour is restored where c is not read
restored_none : (c : Case) (i : ℕ) → reads_level c.events i ≡ false → (k : References) (h : ℕ) → restored c k i h ≡ false
unfolding restored mitigated reads_level
restored_none c i e k h = go (eqb (c.events.kind i) 4) e _ _
  where
    go : (b : Bool) → (b && reads_correct (c.events.component i)) ≡ false → (m t : Bool)
        → ((b && m) && (restores (c.events.component i) (bid_level c.references c.events i) (correct_of c k i) && t)) ≡ false
    go true q true t = rw (restores_none (c.events.component i) (bid_level c.references c.events i) (correct_of c k i) q)
    go true q false t = refl
    go false q m t = refl

-- a bid on energy reads c
pub energy_reads : (c : Case) (i : ℕ) → energy_bid c i ≡ true → reads_level c.events i ≡ true
unfolding energy_bid reads_level reads_correct
energy_reads c i e = go (eqb (c.events.kind i) 4) (c.events.component i) e
  where
    go : (b : Bool) (n : ℕ) → (b && eqb n 0) ≡ true → (b && (leb n 1 || eqb n 3)) ≡ true
    go true zero q = refl
    go true (suc n) q = let z : eqb (suc n) 0 ≡ false = ne_eqb (suc n) 0 (λ z. omega arith) in cc
    go false n q = q

pub correct_read_is : (c : Case) (correct : References) (i : ℕ) → correct_read c correct i ≡ correct_level correct c.events i
unfolding correct_read correct_level reads_level correct_of
correct_read_is c correct i = refl

abbrev terms : (sum : ℕ) (hours : List ℕ) → MakeUpTerms
terms x l = record { sum = x; hours = l }

zeros : replicate {A = ℕ} most_hours 0 ≡ list_to most_hours (λ (h : ℕ). 0)
unfolding list_to
zeros = refl

module _ (format : Format) (u r p s : List ℕ) (i : ℕ) where
  abbrev c : Case
  c = case_in format u r p s

  restored_is : (k : References)
      → restored_by format u s (unit_of c i) (bid_level (references_in format r) (events_in format s) i) (correct_of c k i) (mitigated_mask c i) i
      ≡ mask_to most_hours (restored c k i)
  unfolding restored_by restored fails_with tight case_in
  restored_is k =
      ap (λ (m : ℕ). cond (restores ((events_in format s).component i) (bid_level (references_in format r) (events_in format s) i) (correct_of c k i)) m 0)
      (mask_same most_hours _ _ (λ h l. ap (λ (b : Bool). b && not (fails_with format u s (unit_of c i) (correct_of c k i) i h)) (mitigated_bit format u r p s i h l)))
      ∙ mask_where most_hours (restores ((events_in format s).component i) (bid_level (references_in format r) (events_in format s) i) (correct_of c k i)) (mitigated c i) (fails_with format u s (unit_of c i) (correct_of c k i) i)

  module _ (correct : References) (y : ℕ) (e : y ≡ correct_level correct (events_in format s) i) where
    restored_by_is : restored_by format u s (unit_of c i) (bid_level (references_in format r) (events_in format s) i) y (mitigated_mask c i) i ≡ mask_to most_hours (restored c correct i)
    unfolding case_in
    restored_by_is =
        rw e
        (by_read c correct i (λ x. restored_by format u s (unit_of c i) (bid_level (references_in format r) (events_in format s) i) x (mitigated_mask c i) i)
        (λ k. mask_to most_hours (restored c k i)) restored_is
        (λ q k k'. mask_same most_hours _ _ (λ h l. restored_none c i q k h ∙ sym (restored_none c i q k' h))))

    correct_is : energy_bid c i ≡ true → y ≡ correct_of c correct i
    unfolding correct_level correct_of case_in
    correct_is t = e ∙ rw (energy_reads c i t)

    hours_bid : energy_bid c i ≡ true → (x : ℕ) → x ≡ correct_of c correct i
        → list_to most_hours (tenths_at (cells_from format s i) x (mitigated_mask c i)) ≡ list_to most_hours (hour_make_up_tenths c correct i)
    unfolding tenths_at cell_of hour_make_up_tenths case_in events_in amounts_in cells_in
    hours_bid t x q = list_same most_hours _ _ (λ h l. rw (t, q, mitigated_bit format u r p s i h l))

    hours_none : energy_bid c i ≡ false → replicate most_hours 0 ≡ list_to most_hours (hour_make_up_tenths c correct i)
    unfolding hour_make_up_tenths
    hours_none t = zeros ∙ sym (list_same most_hours _ (λ (h : ℕ). 0) (λ h l. rw t))

    sum_bid : energy_bid c i ≡ true → sum_to most_hours (tenths_at (cells_from format s i) y (mitigated_mask c i)) ≡ make_up_tenths c correct i
    sum_bid t = rw (correct_is t) (tenths_are format u r p s i correct)

    terms_are : terms_by format s i y (mitigated_mask c i) ≡ terms (cond (energy_bid c i) (make_up_tenths c correct i) 0) (list_to most_hours (hour_make_up_tenths c correct i))
    unfolding terms_by energy_bid case_in
    terms_are = go (energy_bid c i) refl
      where
        go : (b : Bool) → energy_bid c i ≡ b
            → cond b
            (terms (sum_to most_hours (tenths_at (cells_from format s i) y (mitigated_mask c i))) (list_to most_hours (tenths_at (cells_from format s i) y (mitigated_mask c i))))
            (terms 0 (replicate most_hours 0))
            ≡ terms (cond b (make_up_tenths c correct i) 0) (list_to most_hours (hour_make_up_tenths c correct i))
        go true t = ap₂ terms (sum_bid t) (hours_bid t y (correct_is t))
        go false t = ap (terms 0) (hours_none t)

-- ---- an accepted case

pub file_fine : (f : List ℕ) (acc : AcceptedFile f) (format : Format) (e : List ℕ) → format ≡ format_in f → e ≡ section_of f 3 → events_fine format e ≡ true
file_fine f acc format e ef ee = rw (ef, ee) (case.fields f acc.correction acc.rows_length acc.accepted).events_fine_holds

-- the whole, from what the functions give
pub working_made : (f : List ℕ) (y i : ℕ) (format : Format) (u e : List ℕ) (place level flags mitigated restored : ℕ) (t : MakeUpTerms) (due : ℕ)
    → format ≡ format_in f → u ≡ section_of f 0 → e ≡ section_of f 3 → place ≡ unit_of (decode f) i
    → level ≡ bid_level (decode f).references (decode f).events i → flags ≡ flag_mask (decode f) i → mitigated ≡ mitigated_by (events_in format e) i flags
    → restored ≡ restored_by format u e place level y mitigated i → t ≡ terms_by format e i y mitigated → due ≡ make_up_by format e i level y mitigated
    → record { number = 0; reference = level; correct = y; mitigated = mitigated; restored = restored; tenths = t.sum; make_up = due; hours = t.hours }
    ≡ make_up_working_in f y i
unfolding make_up_working_in decode
working_made f y i format u e place level flags mitigated restored t due ef eu ee ep el eg em er et ed =
    let m : mitigated ≡ mitigated_mask (decode f) i =
    em ∙ rw (ef, ee) (mitigated_by_is (format_in f) (section_of f 0) (section_of f 1) (section_of f 2) (section_of f 3) i flags eg) in
    rw (er, et, ed, m, ep, el, ef, eu, ee)

-- a day of the case has every hour
day_hours_is : (f : List ℕ) (i : ℕ) (p : ℕ → Bool) → mask_to most_hours p ≡ mask_to ((decode f).events.hours i) p
unfolding decode case_in events_in
day_hours_is f i p = refl

pub working_full : (f k : List ℕ) (i y : ℕ) → y ≡ correct_level (correct_in f k) (decode f).events i
    → make_up_working_in f y i ≡ make_up_working_at (decode f) (correct_in f k) i
unfolding make_up_working_in make_up_working_at decode case_in
working_full f k i y e =
    rw (
      restored_by_is (format_in f) (section_of f 0) (section_of f 1) (section_of f 2) (section_of f 3) i (correct_in f k) y e
          ∙ day_hours_is f i (restored (decode f) (correct_in f k) i),
      terms_are (format_in f) (section_of f 0) (section_of f 1) (section_of f 2) (section_of f 3) i (correct_in f k) y e,
      make_up_by_is (format_in f) (section_of f 0) (section_of f 1) (section_of f 2) (section_of f 3) i (correct_in f k) _ y _ refl e refl,
      e,
      ← correct_read_is (decode f) (correct_in f k) i,
    )

-- ---- the answer

module _ (f k : List ℕ) (i : ℕ) where
  pub refused_is : (number : ℕ) → number ≡ refusal f k (most_rows f) → (number ≡ 0 → ⊥) → refused_make_up number ≡ make_up_working_of f k i
  unfolding make_up_working_of
  refused_is number e n = rw (← e, ne_eqb number 0 n) refl

  pub working_is : refusal f k (most_rows f) ≡ 0 → ltb i (decode f).events.count ≡ true → make_up_working_at (decode f) (correct_in f k) i ≡ make_up_working_of f k i
  unfolding make_up_working_of
  working_is fine t = rw (eq-eqb _ _ fine, t)

  pub outside_is : refusal f k (most_rows f) ≡ 0 → ltb i (decode f).events.count ≡ false → refused_make_up 10 ≡ make_up_working_of f k i
  unfolding make_up_working_of
  outside_is fine t = rw (eq-eqb _ _ fine, t)
