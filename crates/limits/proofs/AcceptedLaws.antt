-- What an accepted case keeps: from `refusal f k n ≡ 0` to the facts that settling it goes by.
use Prim.Native.Nat.{ℕ, ◌*◌, ◌≤◌, ◌<◌}
use mathlib.Core.Bool.{Bool, true, false, not, ◌&&◌, ◌||◌}
use mathlib.Core.List.{List, []}
use mathlib.Core.Path.{◌≡◌, refl, sym, ◌∙◌}
use native.Mathlib.Nat.{mul-le-mul_left}
use native.Mathlib.Omega.{arith}
use lib.Dec.{eqb}
use lib.ListN.{length}
use borrow.Author.Tests.{leb-true, le-leb}
use Rattle.binary.proofs.BoundedLaws.{all_at, all_true}
use Rattle.casefile.specs.Layout.{section_count, longest_file, most_units, most_past, most_events, number_limit, row_width}
use Rattle.casefile.specs.Case.{References, Events}
use Rattle.casefile.specs.Decode.{format_in, case_in, length_of, section_of, FollowOn, HasSection, units_in, references_in, events_in, decode}
use Rattle.casefile.specs.Lookup.{has_reference, reads_correct, correct_references}
use Rattle.limits.specs.StageLookup.{Rising}
use Rattle.limits.specs.Refusal.{event_key, reference_found, references_found, rows_fine, refusal, most_rows}
use Rattle.limits.specs.StageRefusal.{fields_refusal, found_refusal}
use Rattle.limits.proofs.RangeLaws.{EventRange, none_fine}
use Rattle.limits.proofs.SectionLaws as section
use Rattle.limits.proofs.RefusalLaws as stages
use Rattle.limits.proofs.RefusalLaws.{HeaderFine, RecordsFine, FieldsFine, FoundFine}

-- a bid that has r has c, where c is looked for among the case's own references
own_found : (own correct : References) (e : Events) (i : ℕ) → reference_found own correct e i ≡ true → reference_found own own e i ≡ true
unfolding reference_found
own_found own correct e i h =
    go (eqb (e.kind i) 4) (has_reference own (e.unit i) (e.component i)) (reads_correct (e.component i)) (has_reference correct (e.unit i) (e.component i)) h
  where
    go : (bid r reads c : Bool) → (not bid || (r && (not reads || c))) ≡ true → (not bid || (r && (not reads || r))) ≡ true
    go false r reads c h = refl
    go true true true c h = refl
    go true true false c h = refl
    go true false reads c h = h

-- ---- an accepted case

module _ (f k : List ℕ) (n : ℕ) (h : refusal f k n ≡ 0) where
  pub header : HeaderFine f
  header = (stages.header_fine f _ (sym (stages.in_stages f k n) ∙ h)).0

  records_and_rest : RecordsFine (format_in f) (section_of f 0) (section_of f 1) k (section_of f 2) (section_of f 3)
      × (fields_refusal (format_in f) (section_of f 2) (section_of f 3) (found_refusal (format_in f) (section_of f 0) (section_of f 1) (correct_references k (section_of f 1)) (section_of f 3) n)
      ≡ 0)
  records_and_rest =
      stages.records_fine (format_in f) (section_of f 0) (section_of f 1) k (section_of f 2) (section_of f 3) _ (stages.header_fine f _ (sym (stages.in_stages f k n) ∙ h)).1

  pub records : RecordsFine (format_in f) (section_of f 0) (section_of f 1) k (section_of f 2) (section_of f 3)
  records = records_and_rest.0

  fields_and_found : FieldsFine (format_in f) (section_of f 2) (section_of f 3)
      × (found_refusal (format_in f) (section_of f 0) (section_of f 1) (correct_references k (section_of f 1)) (section_of f 3) n ≡ 0)
  fields_and_found = stages.fields_fine_is (format_in f) (section_of f 2) (section_of f 3) _ records_and_rest.1

  pub fields : FieldsFine (format_in f) (section_of f 2) (section_of f 3)
  fields = fields_and_found.0

  pub found : FoundFine (format_in f) (section_of f 0) (section_of f 1) (correct_references k (section_of f 1)) (section_of f 3) n
  found = stages.found_fine (format_in f) (section_of f 0) (section_of f 1) (correct_references k (section_of f 1)) (section_of f 3) n fields_and_found.1

  -- the file

  pub file_short : length f ≤ longest_file
  file_short = stages.header_short f header

  pub follows : FollowOn f
  follows = stages.follow_on f header

  pub has_section : (i : ℕ) → i < section_count → HasSection f i
  has_section = stages.has_section f header

  pub section_length : (i : ℕ) → i < section_count → length (section_of f i) ≡ length_of f i
  section_length = section.section_length f header

  -- sizes

  pub units_count : (decode f).units.count ≤ most_units
  unfolding decode case_in
  units_count = section.units_fit f header

  pub past_count : (decode f).past.count ≤ most_past
  unfolding decode case_in
  past_count = section.past_fit f header

  pub events_count : (decode f).events.count ≤ most_events
  unfolding decode case_in
  events_count = section.events_fit f header

  -- events

  pub event_ranges : (i : ℕ) → i < (decode f).events.count → EventRange (decode f).events i
  unfolding decode case_in
  event_ranges i l = section.event_ranges (format_in f) (section_of f 3) fields.events_fine_holds i l

  pub events_rise : Rising (event_key (decode f).events) (decode f).events.count
  unfolding decode case_in
  events_rise i j l m = section.events_rise (events_in (format_in f) (section_of f 3)) fields.order_fine_holds i j l m

  pub days_in_order : (i j : ℕ) → i < j → j < (decode f).events.count → (decode f).events.unit j < number_limit
      → (decode f).events.day i ≤ (decode f).events.day j
  unfolding event_key
  days_in_order i j l m unit =
      let r = events_rise i j l m in
      let e = event_ranges j m in
      let kind = e.kind in
      let market = e.market in
      let component = e.component in
      omega arith

  -- rows

  pub rows_long : row_width (format_in f) * (decode f).events.count ≤ n
  unfolding decode case_in rows_fine
  rows_long = leb-true _ _ found.rows_fine_holds

  -- the case alone

  own_references : references_found (references_in (format_in f) (section_of f 1)) (references_in (format_in f) (section_of f 1)) (events_in (format_in f) (section_of f 3)) ≡ true
  unfolding references_found
  own_references =
      all_true (events_in (format_in f) (section_of f 3)).count _
      (λ i l. own_found _ _ _ i (all_at (events_in (format_in f) (section_of f 3)).count i _ l found.references_found_holds))

  most_rows_holds : rows_fine (format_in f) (events_in (format_in f) (section_of f 3)) (most_rows f) ≡ true
  unfolding rows_fine
  most_rows_holds = le-leb _ _ (mul-le-mul_left (row_width (format_in f)) (section.events_fit f header))

  -- it is accepted with no correction too, and with rows for every case
  pub alone : refusal f [] (most_rows f) ≡ 0
  unfolding refusal correct_references
  alone =
      rw (
        header.fits,
        header.versioned,
        header.sections,
        header.pairs,
        header.sizes,
        records.numbers_fine_holds,
        records.units_fine_holds,
        records.references_fine_holds,
        ← none_fine (format_in f) (units_in (format_in f) (section_of f 0)) [] refl,
        records.past_fine_holds,
        fields.events_fine_holds,
        fields.days_fine_holds,
        fields.periods_fine_holds,
        fields.order_fine_holds,
        found.events_listed_holds,
        found.amounts_fine_holds,
        own_references,
        most_rows_holds,
      )
      refl
