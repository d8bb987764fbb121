-- A version 1 file and its version 2 copy, each accepted, decode to equal cases, and so do their corrections.
use Prim.Native.Nat.{ℕ, zero, suc, ◌+◌, ◌*◌, ◌/◌, ◌%◌, ◌≤◌}
use mathlib.Core.Bool.{Bool, true, false, cond}
use mathlib.Core.List.{List}
use mathlib.Core.Path.{◌≡◌, sym, ap, ◌∙◌}
use native.Mathlib.Nat.{div-add-mod}
use native.Mathlib.Omega.{arith}
use lib.Dec.{eqb}
use lib.ListN.{length}
use borrow.Author.Tests.{eq-eqb, ne_eqb}
use Rattle.binary.proofs.Implies.{and_l, and_r}
use Rattle.casefile.specs.Layout.{header_width, longest_file, most_units, most_references, most_events, first_widths, widths_of}
use Rattle.casefile.specs.Decode.{format_in, length_of, section_of, references_in, past_in, case_in, decode}
use Rattle.casefile.specs.Lookup.{correct_references, correct_in}
use Rattle.limits.specs.Refusal.{sizes_fine, correction_fine}
use Rattle.limits.proofs.SectionLaws.{sized}
use Rattle.limits.proofs.AcceptedLaws as laws
use Rattle.second_version.specs.SecondVersion.{copy_units, copy_references, copy_events, copy_of, BothAccepted}
use Rattle.second_version.proofs.RecordCopies.{first, second, copy_length, units_same, references_same, events_same, amounts_same}
use Rattle.second_version.proofs.FileSections as sections

-- whole records
whole_records : (w n : ℕ) → n % w ≡ 0 → n ≡ w * (n / w)
whole_records w n h = let e = div-add-mod n w in omega arith

case_same : (u r p e : List ℕ) → length u ≡ 24 * (length u / 24) → length r ≡ 8 * (length r / 8) → length e ≡ 312 * (length e / 312)
    → case_in second (copy_units u) (copy_references r) p (copy_events e) ≡ case_in first u r p e
unfolding case_in
case_same u r p e a b c = λ k.
    record {
      units = units_same u a k;
      references = references_same r b k;
      past = past_in p;
      events = events_same e c k;
      a = amounts_same e c k;
    }

-- the copy of a correction is empty where the correction is
copy_empty : (k : List ℕ) → length k ≡ 8 * (length k / 8) → eqb (length (copy_references k)) 0 ≡ eqb (length k) 0
unfolding copy_references first_widths
copy_empty k whole = go (length k / 8) (copy_length 8 0 (omega arith) k whole) whole
  where
    go : (n : ℕ) → length (copy_references k) ≡ 12 * n → length k ≡ 8 * n → eqb (length (copy_references k)) 0 ≡ eqb (length k) 0
    go zero e w = eq-eqb (length (copy_references k)) 0 (omega arith) ∙ sym (eq-eqb (length k) 0 (omega arith))
    go (suc n) e w = ne_eqb (length (copy_references k)) 0 (λ q. omega arith) ∙ sym (ne_eqb (length k) 0 (λ q. omega arith))

module _ (f k : List ℕ) (n : ℕ) (both : BothAccepted f k n) where
  format : format_in f ≡ first
  format = ap (λ (v : ℕ). record { version = v }) both.version

  -- the sections have whole records
  units_whole : length (section_of f 0) ≡ 24 * (length (section_of f 0) / 24)
  unfolding sizes_fine widths_of first_widths
  units_whole =
      let t = rw format at (laws.header f k n both.own).sizes in
      rw (laws.section_length f k n both.own 0 (omega arith)) (whole_records 24 (length_of f 0) (sized (length_of f 0) 24 most_units (search (and_l, and_r))).0)

  references_whole : length (section_of f 1) ≡ 8 * (length (section_of f 1) / 8)
  unfolding sizes_fine widths_of first_widths
  references_whole =
      let t = rw format at (laws.header f k n both.own).sizes in
      rw (laws.section_length f k n both.own 1 (omega arith)) (whole_records 8 (length_of f 1) (sized (length_of f 1) 8 most_references (search (and_l, and_r))).0)

  events_whole : length (section_of f 3) ≡ 312 * (length (section_of f 3) / 312)
  unfolding sizes_fine widths_of first_widths
  events_whole =
      let t = rw format at (laws.header f k n both.own).sizes in
      rw (laws.section_length f k n both.own 3 (omega arith)) (whole_records 312 (length_of f 3) (sized (length_of f 3) 312 most_events (search (and_l, and_r))).0)

  correction_whole : length k ≡ 8 * (length k / 8)
  unfolding correction_fine widths_of first_widths
  correction_whole =
      let t = rw format at (laws.records f k n both.own).correction_fine_holds in
      whole_records 8 (length k) (sized (length k) 8 most_references (search (and_l, and_r))).0

  abbrev u : List ℕ
  u = copy_units (section_of f 0)

  abbrev r : List ℕ
  r = copy_references (section_of f 1)

  abbrev e : List ℕ
  e = copy_events (section_of f 3)

  short : header_width + length u + length r + length (section_of f 2) + length e ≤ longest_file
  unfolding copy_of
  short =
      let l = sections.file_length u r (section_of f 2) e in
      let s = laws.file_short (copy_of f) (copy_references k) n both.copied in
      omega arith

  copy_format : format_in (copy_of f) ≡ second
  unfolding copy_of
  copy_format = sections.file_format u r (section_of f 2) e

  pub same_case : decode (copy_of f) ≡ decode f
  unfolding decode copy_of
  same_case =
      rw (
        copy_format,
        sections.units_are u r (section_of f 2) e short,
        sections.references_are u r (section_of f 2) e short,
        sections.past_are u r (section_of f 2) e short,
        sections.events_are u r (section_of f 2) e short,
        format,
      )
      (case_same (section_of f 0) (section_of f 1) (section_of f 2) (section_of f 3) units_whole references_whole events_whole)

  pub same_correct : correct_in (copy_of f) (copy_references k) ≡ correct_in f k
  unfolding correct_in correct_references copy_of
  same_correct =
      rw (copy_format, sections.references_are u r (section_of f 2) e short, format, copy_empty k correction_whole) (go (eqb (length k) 0))
    where
      go : (b : Bool) → references_in second (cond b r (copy_references k)) ≡ references_in first (cond b (section_of f 1) k)
      go true = references_same (section_of f 1) references_whole
      go false = references_same k correction_whole
