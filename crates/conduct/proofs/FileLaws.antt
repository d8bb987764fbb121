-- What is found from the sections of an accepted file are the figures of its case.
use Prim.Native.Nat.{ℕ, ◌≤◌, ◌<◌}
use mathlib.Core.Bool.{Bool, true, false, cond}
use mathlib.Core.List.{List, []}
use mathlib.Core.Path.{◌≡◌, refl, sym, ap, ◌∙◌}
use native.Mathlib.Omega.{arith}
use borrow.Author.Tests.{eqb-true}
use lib.Dec.{eqb}
use lib.ListN.{length, get_or}
use Rattle.binary.specs.Bounded.{mask_to}
use Rattle.binary.specs.Lists.{Bytes, Holds}
use Rattle.binary.proofs.Implies.{and_l, and_r}
use Rattle.binary.proofs.BoundedLaws.{sum_same}
use Rattle.binary.proofs.MaskLaws.{mask_same}
use Rattle.tariff.specs.ConductTests.{increase}
use Rattle.casefile.specs.declared.layout.Format.{Format}
use Rattle.casefile.specs.Layout.{section_count, most_hours, header_width, most_past, most_events, longest_file}
use Rattle.casefile.specs.Decode.{format_in, section_of, HasSection, units_in, references_in, past_in, events_in, case_in, decode}
use Rattle.casefile.specs.Lookup.{unit_of, group_of, reference_of, bid_level, together}
use Rattle.casefile.proofs.RecordLaws.{count_is}
use Rattle.limits.proofs.LookupLaws.{events_place}
use Rattle.limits.specs.Refusal.{events_listed}
use Rattle.limits.specs.StageChecked.{AcceptedFile}
use Rattle.limits.proofs.AcceptedLaws as case
use Rattle.party_runs.specs.StageParties.{RunsTogether, leader_of}
use Rattle.party_runs.proofs.PartyLaws.{accepted_runs, unit_sections, group_sections, leader_sections}
use Rattle.conduct.specs.Flags.{tight, sum_together, time_bid, time_total, bid_flag, group_capability, group_sum, withheld_flag, dispatch_flag, fuel_flag, flagged, flag_mask}
use Rattle.conduct.specs.StageTime.{BidsInOrder}
use Rattle.conduct.specs.StageFlags.{time_total_in, bid_flag_in, flagged_in, flag_mask_in, Led}
use Rattle.conduct.proofs.SumLaws.{cond_given}
use Rattle.conduct.proofs.TimeLaws.{bids_in_order}
use Rattle.conduct.proofs.HourTestLaws.{hours_are}

-- ---- with the references in place of the levels

module _ (format : Format) (u r p e levels : List ℕ) (t : Holds (events_in format e).count levels (bid_level (references_in format r) (events_in format e))) where
  level_of_is : (j : ℕ) → j < (events_in format e).count → (case_in format u r p e).events.kind j ≡ 4 → get_or levels j 0 ≡ reference_of (case_in format u r p e) j
  unfolding bid_level reference_of case_in
  level_of_is j l q = t j l ∙ rw q

  bid_kind : (i j : ℕ) → time_bid (case_in format u r p e) i j ≡ true → (case_in format u r p e).events.kind j ≡ 4
  unfolding time_bid
  bid_kind i j h =
      let q : eqb ((case_in format u r p e).events.kind j) 4 ≡ true = search (and_l, and_r) depth 8 in
      eqb-true _ _ q

  count_of : (case_in format u r p e).events.count ≡ (events_in format e).count
  unfolding case_in events_in
  count_of = refl

  pub total_is : (i h : ℕ) → time_total_in (case_in format u r p e) levels i h ≡ time_total (case_in format u r p e) i h
  unfolding time_total_in time_total
  total_is i h =
      sum_same (case_in format u r p e).events.count _ _
      (λ j l.
      cond_given (time_bid (case_in format u r p e) i j) _ _
      (λ b. ap (λ (x : ℕ). increase x ((case_in format u r p e).a j h)) (level_of_is j (let q = count_of in omega arith) (bid_kind i j b))))

  bid_same : (i h : ℕ) → bid_flag_in (case_in format u [] [] e) levels i h ≡ bid_flag_in (case_in format u r p e) levels i h
  unfolding bid_flag_in tight unit_of time_total_in time_bid case_in
  bid_same i h = refl

  bid_is : (i h : ℕ) → i < (events_in format e).count → (case_in format u r p e).events.kind i ≡ 4 → bid_flag_in (case_in format u [] [] e) levels i h ≡ bid_flag (case_in format u r p e) i h
  unfolding bid_flag_in bid_flag
  bid_is i h l q = bid_same i h ∙ rw (level_of_is i l q, total_is i h)

  withheld_same : (i h : ℕ) → withheld_flag (case_in format u [] [] e) i h ≡ withheld_flag (case_in format u r p e) i h
  unfolding withheld_flag group_sum sum_together together group_capability group_of unit_of tight case_in
  withheld_same i h = refl

  dispatch_same : (i h : ℕ) → dispatch_flag (case_in format u [] [] e) i h ≡ dispatch_flag (case_in format u r p e) i h
  unfolding dispatch_flag group_sum sum_together together group_of unit_of tight case_in
  dispatch_same i h = refl

  fuel_same : (i h : ℕ) → fuel_flag (case_in format u [] [] e) i h ≡ fuel_flag (case_in format u r p e) i h
  unfolding fuel_flag together group_of unit_of case_in
  fuel_same i h = refl

  kind_same : (i : ℕ) → (case_in format u [] [] e).events.kind i ≡ (case_in format u r p e).events.kind i
  unfolding case_in
  kind_same i = refl

  given : (b x y : Bool) → (b ≡ true → x ≡ y) → cond b x false ≡ cond b y false
  given true x y h = h refl
  given false x y h = refl

  flagged_is : (i h : ℕ) → i < (events_in format e).count → flagged_in (case_in format u [] [] e) levels i h ≡ flagged (case_in format u r p e) i h
  unfolding flagged_in flagged
  flagged_is i h l =
      rw (
        kind_same i,
        withheld_same i h,
        dispatch_same i h,
        fuel_same i h,
        given (eqb ((case_in format u r p e).events.kind i) 4) (bid_flag_in (case_in format u [] [] e) levels i h) (bid_flag (case_in format u r p e) i h)
            (λ q. bid_is i h l (eqb-true _ _ q)),
      )

  flag_hours : (i : ℕ) → mask_to most_hours (flagged (case_in format u r p e) i) ≡ flag_mask (case_in format u r p e) i
  unfolding flag_mask case_in events_in
  flag_hours i = refl

  flag_mask_is : (i : ℕ) → i < (events_in format e).count → flag_mask_in (case_in format u [] [] e) levels i ≡ flag_mask (case_in format u r p e) i
  flag_mask_is i l = sym (hours_are format u e levels i) ∙ mask_same most_hours _ _ (λ h b. flagged_is i h l) ∙ flag_hours i

-- ---- an accepted file

module _ (f : List ℕ) (a : AcceptedFile f) where
  pub has_section : (i : ℕ) → i < section_count → HasSection f i
  has_section = case.has_section f a.correction a.rows_length a.accepted

  short : length (section_of f 0) ≤ longest_file
  short =
      let t = case.file_short f a.correction a.rows_length a.accepted in
      omega (arith, case.section_length f a.correction a.rows_length a.accepted 0 (omega arith), (has_section 0 (omega arith)).inside)

  pub header_long : header_width ≤ length f
  header_long = (has_section 0 (omega arith)).header

  few : (events_in (format_in f) (section_of f 3)).count ≤ most_events
  unfolding decode case_in
  few = case.events_count f a.correction a.rows_length a.accepted

  pub past_few : (p : List ℕ) → p ≡ section_of f 2 → (past_in p).count ≤ most_past
  unfolding decode case_in
  past_few p q = rw q (case.past_count f a.correction a.rows_length a.accepted)

  -- the sections, as they are handed on
  module _ (format : Format) (u e : List ℕ) (ef : format ≡ format_in f) (eu : u ≡ section_of f 0) (ee : e ≡ section_of f 3) where
    pub file_few : (events_in format e).count ≤ most_events
    file_few = rw (ef, ee) few

    pub file_listed : events_listed (units_in format u) (events_in format e) ≡ true
    file_listed = rw (ef, eu, ee) (case.found f a.correction a.rows_length a.accepted).events_listed_holds

    pub file_bids : BidsInOrder (events_in format e)
    file_bids = rw (ef, ee) (bids_in_order f a.correction a.rows_length a.accepted)

    pub file_runs : Bytes f → RunsTogether (events_in format e)
    file_runs b = rw (ef, ee) (accepted_runs f a.correction a.rows_length b a.accepted)

    case_of : decode f ≡ case_in format u (section_of f 1) (section_of f 2) e
    unfolding decode
    case_of = rw (ef, eu, ee)

    counted_events : (decode f).events.count ≡ (events_in format e).count
    counted_events = sym (count_is format f e ef ee)

    -- the unit of an event is among the units
    pub file_place : (i place : ℕ) → place ≡ unit_of (decode f) i → i < (decode f).events.count → place < (units_in format u).count
    unfolding unit_of decode case_in
    file_place i place q l =
        rw (q, ef, eu)
        (events_place (units_in (format_in f) (section_of f 0)) (events_in (format_in f) (section_of f 3)) i
        (case.found f a.correction a.rows_length a.accepted).events_listed_holds l)

    pub file_places : (places : List ℕ) → Holds (decode f).events.count places (unit_of (decode f))
        → Holds (events_in format e).count places (unit_of (case_in format u [] [] e))
    file_places places h i l =
        h i (rw counted_events l) ∙ ap (λ c. unit_of c i) case_of ∙ unit_sections format u (section_of f 1) [] (section_of f 2) [] e i

    pub file_led : (places leaders : List ℕ) → Holds (decode f).events.count places (unit_of (decode f))
        → Holds (events_in format e).count leaders (leader_of (case_in format u [] [] e)) → Led format u e places leaders
    file_led places leaders h l =
        record { few = file_few; short = rw eu short; listed = file_listed; placed = file_places places h; led = l }

    pub file_groups : (groups : List ℕ) → Holds (events_in format e).count groups (group_of (case_in format u [] [] e))
        → Holds (decode f).events.count groups (group_of (decode f))
    file_groups groups h i l =
        h i (rw counted_events at l) ∙ group_sections format u [] (section_of f 1) [] (section_of f 2) e i ∙ ap (λ c. group_of c i) (sym case_of)

    pub file_leaders : (leaders : List ℕ) → Holds (events_in format e).count leaders (leader_of (case_in format u [] [] e))
        → Holds (decode f).events.count leaders (leader_of (decode f))
    file_leaders leaders h i l =
        h i (rw counted_events at l) ∙ leader_sections format u [] (section_of f 1) [] (section_of f 2) e i ∙ ap (λ c. leader_of c i) (sym case_of)

    levels_of : (levels : List ℕ) → Holds (decode f).events.count levels (bid_level (decode f).references (decode f).events)
        → Holds (events_in format e).count levels (bid_level (references_in format (section_of f 1)) (events_in format e))
    unfolding decode case_in
    levels_of levels h i l = h i (rw counted_events l) ∙ rw (ef, ee)

    pub file_flags : (levels masks : List ℕ) → Holds (decode f).events.count levels (bid_level (decode f).references (decode f).events)
        → Holds (events_in format e).count masks (flag_mask_in (case_in format u [] [] e) levels)
        → Holds (decode f).events.count masks (flag_mask (decode f))
    file_flags levels masks t h i l =
        let q : i < (events_in format e).count = rw counted_events at l in
        h i q ∙ flag_mask_is format u (section_of f 1) (section_of f 2) e levels (levels_of levels t) i q ∙ ap (λ c. flag_mask c i) (sym case_of)
