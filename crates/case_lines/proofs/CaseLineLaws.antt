-- The bids of an accepted case are flagged by their lines, since its references and bids are in their ranges.
use Prim.Native.Nat.{ℕ, ◌≤◌, ◌<◌}
use mathlib.Core.Bool.{Bool, true, not, ◌&&◌, ◌||◌}
use mathlib.Core.List.{List}
use mathlib.Core.Path.{◌≡◌, ap, subst, ◌∙◌}
use lib.Dec.{leb, eqb}
use borrow.Author.Tests.{leb-true, eqb-true, eq-eqb}
use Rattle.binary.specs.Bounded.{all_to, last_to}
use Rattle.binary.specs.Word.{within}
use Rattle.binary.proofs.Implies.{and_l, and_r}
use Rattle.binary.proofs.BoundedLaws.{all_at, last_holds}
use Rattle.tariff.specs.Ranges.{highest_average_price, most_constrained_hours, reference_in_range, highest_price, highest_megawatts, bid_in_range}
use Rattle.casefile.specs.declared.layout.Format.{Format}
use Rattle.casefile.specs.Case.{Units, References, Events}
use Rattle.casefile.specs.Decode.{format_in, section_of, units_in, references_in, events_in, amounts_in, case_in, decode}
use Rattle.casefile.specs.Lookup.{place_of, unit_of, is_reference, has_reference, level_of, reference_of, correct_references}
use Rattle.limits.specs.Refusal.{unit_fields_fine, unit_fine, units_fine, events_listed, reference_fields_fine, reference_fine, references_fine, cell_fine, hour_fine, event_fine, events_fine, reference_found, references_found, refusal}
use Rattle.limits.proofs.RangeLaws.{or_right, of_kind_holds}
use Rattle.limits.proofs.LookupLaws.{last_below, events_place}
use Rattle.limits.proofs.AcceptedLaws as accepted
use Rattle.conduct.specs.Flags.{time_total, bid_flag, flagged}
use Rattle.calls.specs.Answers.{given}
use Rattle.line.specs.OpenLine.{over_sum}
use Rattle.line.specs.BidLine.{good_side}
use Rattle.line.proofs.LineLaws.{is_line, line_given, beside_sum}
use Rattle.case_lines.specs.CaseLine.{line_at, answer_at, BidHour, LinesOf}

-- ---- what limits 7, 10 and 14 say of a bid

-- a reference that is found is in its component's range
found_in_range : (format : Format) (u : Units) (s : List ℕ) (unit component : ℕ) → references_fine format u s ≡ true
    → has_reference (references_in format s) unit component ≡ true → reference_in_range component (level_of (references_in format s) unit component) ≡ true
unfolding references_fine reference_fine reference_fields_fine has_reference level_of is_reference
found_in_range format u s unit component fine found =
    let j = last_to (references_in format s).count (is_reference (references_in format s) unit component) in
    let t = all_at (references_in format s).count j (reference_fine format u s) (last_below _ (is_reference (references_in format s) unit component) found) fine in
    let is = last_holds (references_in format s).count (is_reference (references_in format s) unit component) found in
    let e : (references_in format s).component j ≡ component = eqb-true _ _ (and_r (eqb ((references_in format s).unit j) unit) _ is) in
    subst (λ (k : ℕ). reference_in_range k ((references_in format s).value j) ≡ true) e (search (and_l, and_r) depth 10)

bid_in_range_holds : (e : Events) (a : ℕ → ℕ → ℕ) (i h : ℕ) → event_fine e a i ≡ true → h < e.hours i → e.kind i ≡ 4 → bid_in_range (e.component i) (a i h) ≡ true
unfolding event_fine hour_fine cell_fine
bid_in_range_holds e a i h fine l kind =
    let t : all_to (e.hours i) (hour_fine e a i) ≡ true = search and_r in
    let cell = all_at (e.hours i) h (hour_fine e a i) l t in
    let bid : (bid_in_range (e.component i) (a i h) && within 32 highest_price (e.b i h) && leb (e.m i h) highest_megawatts) ≡ true =
    of_kind_holds 4 (e.kind i) _ (search (and_l, and_r)) kind in
    search (and_l, and_r)

has_level : (own correct : References) (e : Events) (i : ℕ) → reference_found own correct e i ≡ true → e.kind i ≡ 4
    → has_reference own (e.unit i) (e.component i) ≡ true
unfolding reference_found
has_level own correct e i found kind = and_l _ _ (or_right (not (eqb (e.kind i) 4)) _ found (ap not (eq-eqb (e.kind i) 4 kind)))

-- the unit of an event is in its ranges
unit_in_range : (format : Format) (u : List ℕ) (e : Events) (i : ℕ) → units_fine format u ≡ true → events_listed (units_in format u) e ≡ true → i < e.count
    → ((units_in format u).average_price (place_of (units_in format u) (e.unit i)) ≤ highest_average_price)
    × ((units_in format u).constrained_hours (place_of (units_in format u) (e.unit i)) ≤ most_constrained_hours)
unfolding units_fine unit_fine unit_fields_fine
unit_in_range format u e i fine listed l =
    let t = all_at (units_in format u).count _ (unit_fine format u) (events_place (units_in format u) e i listed l) fine in
    (leb-true _ highest_average_price (search (and_l, and_r) depth 10), leb-true _ most_constrained_hours (search (and_l, and_r) depth 10))

-- ---- an accepted file

module _ (f k : List ℕ) (n : ℕ) (ok : refusal f k n ≡ 0) (i h : ℕ) (at : BidHour (decode f) i h) where
  reference : reference_in_range ((decode f).events.component i) (reference_of (decode f) i) ≡ true
  unfolding decode case_in references_found reference_of
  reference =
      let e = events_in (format_in f) (section_of f 3) in
      let own = references_in (format_in f) (section_of f 1) in
      let correct = references_in (format_in f) (correct_references k (section_of f 1)) in
      let found = all_at e.count i (reference_found own correct e) at.event (accepted.found f k n ok).references_found_holds in
      found_in_range (format_in f) (units_in (format_in f) (section_of f 0)) (section_of f 1) (e.unit i) (e.component i)
      (accepted.records f k n ok).references_fine_holds (has_level own correct e i found at.bid)

  bid : bid_in_range ((decode f).events.component i) ((decode f).a i h) ≡ true
  unfolding decode case_in events_fine
  bid =
      let e = events_in (format_in f) (section_of f 3) in
      let a = amounts_in (format_in f) (section_of f 3) in
      bid_in_range_holds e a i h (all_at e.count i (event_fine e a) at.event (accepted.fields f k n ok).events_fine_holds) at.hour at.bid

  given_line : answer_at (decode f) i h ≡ given (line_at (decode f) i h)
  unfolding answer_at line_at decode case_in unit_of
  given_line =
      let ranges = accepted.event_ranges f k n ok i at.event in
      let unit = unit_in_range (format_in f) (section_of f 0) (events_in (format_in f) (section_of f 3)) i (accepted.records f k n ok).units_fine_holds
      (accepted.found f k n ok).events_listed_holds at.event in
      line_given _ _ _ _ _ _ ranges.component reference ranges.market unit.0 unit.1

  flagged_by_line : flagged (decode f) i h
      ≡ (not (good_side ((decode f).events.component i) ((decode f).a i h) (line_at (decode f) i h))
      || over_sum ((decode f).events.component i) (reference_of (decode f) i) ((decode f).a i h) (time_total (decode f) i h))
  unfolding flagged bid_flag line_at
  flagged_by_line =
      let component = (accepted.event_ranges f k n ok i at.event).component in
      rw at.bid
      (beside_sum (reference_of (decode f) i) ((decode f).a i h) _ _ _ _ (time_total (decode f) i h) ((decode f).events.component i) component
      ∙ ap (λ (b : Bool). b || over_sum ((decode f).events.component i) (reference_of (decode f) i) ((decode f).a i h) (time_total (decode f) i h))
      ((is_line ((decode f).events.component i) (reference_of (decode f) i) _ _ _ _ component reference).splits ((decode f).a i h) bid))

-- the promise
pub lines_of : (f k : List ℕ) (n : ℕ) → refusal f k n ≡ 0 → LinesOf (decode f)
lines_of f k n ok = record { given_at = given_line f k n ok; flagged_at = flagged_by_line f k n ok }
