-- What the checks of sections say of each of their records, for stages that hold the sections alone.
use Prim.Native.Nat.{ℕ, ◌+◌, ◌*◌, ◌/◌, ◌%◌, ◌^◌, ◌≤◌, ◌<◌}
use mathlib.Core.Bool.{true}
use mathlib.Core.List.{List}
use mathlib.Core.Path.{◌≡◌}
use native.Mathlib.Nat.{le_trans}
use native.Mathlib.Omega.{arith}
use lib.Dec.{ltb}
use lib.ListN.{length, length-take, length-drop}
use borrow.Author.Tests.{leb-true, eqb-true, le-ltb}
use Rattle.binary.specs.Bounded.{all_to}
use Rattle.binary.proofs.Implies.{and_l, and_r}
use Rattle.binary.proofs.BoundedLaws.{all_at}
use Rattle.tariff.specs.Ranges.{highest_capability}
use Rattle.casefile.specs.declared.layout.Format.{Format}
use Rattle.casefile.specs.Case.{Events}
use Rattle.casefile.specs.Layout.{section_count, unit_width, past_width, event_width, most_units, most_past, most_events}
use Rattle.casefile.specs.Decode.{format_in, length_of, section_of, units_in, past_in, events_in, amounts_in}
use Rattle.casefile.specs.Lookup.{place_of}
use Rattle.limits.specs.StageLookup.{Rising}
use Rattle.limits.specs.Refusal.{size_fine, sizes_fine, rises, unit_fine, units_fine, hour_fine, event_fine, events_fine, event_key, order_fine, events_listed, within_capability, amount_fine, amounts_fine}
use Rattle.limits.proofs.LookupLaws.{events_place}
use Rattle.limits.proofs.RangeLaws.{or_right, EventRange, CellRange, capability_range, event_range, cell_range, rising}
use Rattle.limits.proofs.RefusalLaws.{HeaderFine, has_section}

-- a stretch of so many bytes is whole records, and not too many
pub sized : (n width most : ℕ) → size_fine n width most ≡ true → (n % width ≡ 0) × (n / width ≤ most)
unfolding size_fine
sized n width most h = (eqb-true (n % width) 0 (search (and_l, and_r)), leb-true (n / width) most (search (and_l, and_r)))

-- ---- the sections of a file

module _ (f : List ℕ) (h : HeaderFine f) where
  pub section_length : (i : ℕ) → i < section_count → length (section_of f i) ≡ length_of f i
  unfolding section_of
  section_length i l = let s = has_section f h i l in simp (length-take, length-drop) (omega arith)

  -- not more units, past entries and events than a file may have
  pub units_fit : (units_in (format_in f) (section_of f 0)).count ≤ most_units
  unfolding sizes_fine units_in
  units_fit =
      let t = h.sizes in
      rw (section_length 0 (omega arith)) (sized (length_of f 0) (unit_width (format_in f)) most_units (search (and_l, and_r))).1

  pub past_fit : (past_in (section_of f 2)).count ≤ most_past
  unfolding sizes_fine past_in
  past_fit =
      let t = h.sizes in
      rw (section_length 2 (omega arith)) (sized (length_of f 2) past_width most_past (search (and_l, and_r))).1

  pub events_fit : (events_in (format_in f) (section_of f 3)).count ≤ most_events
  unfolding sizes_fine events_in
  events_fit =
      let t = h.sizes in
      rw (section_length 3 (omega arith)) (sized (length_of f 3) (event_width (format_in f)) most_events (search (and_l, and_r))).1

-- ---- events

module _ (format : Format) (e : List ℕ) (h : events_fine format e ≡ true) where
  fine : (i : ℕ) → i < (events_in format e).count → event_fine (events_in format e) (amounts_in format e) i ≡ true
  unfolding events_fine
  fine i l = all_at (events_in format e).count i (event_fine (events_in format e) (amounts_in format e)) l h

  pub event_ranges : (i : ℕ) → i < (events_in format e).count → EventRange (events_in format e) i
  event_ranges i l = event_range (events_in format e) (amounts_in format e) i (fine i l)

  pub cell_ranges : (i x : ℕ) → i < (events_in format e).count → x < (events_in format e).hours i
      → CellRange ((events_in format e).kind i) (amounts_in format e i x) ((events_in format e).b i x) ((events_in format e).m i x)
  unfolding event_fine hour_fine
  cell_ranges i x l m =
      let t : all_to ((events_in format e).hours i) (hour_fine (events_in format e) (amounts_in format e) i) ≡ true = let u = fine i l in search and_r in
      cell_range _ _ _ _ _ (all_at ((events_in format e).hours i) x (hour_fine (events_in format e) (amounts_in format e) i) m t)

module _ (e : Events) (h : order_fine e ≡ true) where
  pub events_rise : Rising (event_key e) e.count
  unfolding order_fine
  events_rise i j l m = rising (event_key e) _ (λ x lx. all_at e.count x (rises (event_key e)) lx h) i j l m

  -- of one day, kind and market, by unit and component
  pub units_in_order : (i j : ℕ) → i < j → j < e.count → e.day i ≡ e.day j → e.kind i ≡ e.kind j → e.market i ≡ e.market j
      → 2 ^ 8 * e.unit i + e.component i < 2 ^ 8 * e.unit j + e.component j
  unfolding event_key
  units_in_order i j l m day kind market = let r = events_rise i j l m in omega arith

-- ---- an event's unit

-- a of kinds 1 and 2
pub amount_capability : (format : Format) (u e : List ℕ) → amounts_fine format (units_in format u) e ≡ true → (i x : ℕ) → i < (events_in format e).count → x < (events_in format e).hours i
    → (events_in format e).kind i ≤ 2 → amounts_in format e i x ≤ (units_in format u).capability (place_of (units_in format u) ((events_in format e).unit i))
unfolding amounts_fine amount_fine within_capability
amount_capability format u e h i x l m kind =
    let t = all_at (events_in format e).count i (amount_fine (units_in format u) (events_in format e) (amounts_in format e)) l h in
    let w : all_to ((events_in format e).hours i) (within_capability (units_in format u) (events_in format e) (amounts_in format e) i) ≡ true =
    or_right (ltb 2 ((events_in format e).kind i)) _ t (le-ltb 2 ((events_in format e).kind i) kind) in
    leb-true _ _ (all_at ((events_in format e).hours i) x (within_capability (units_in format u) (events_in format e) (amounts_in format e) i) m w)

pub amount_bound : (format : Format) (u e : List ℕ) → units_fine format u ≡ true → events_listed (units_in format u) (events_in format e) ≡ true → amounts_fine format (units_in format u) e ≡ true
    → (i x : ℕ) → i < (events_in format e).count → x < (events_in format e).hours i → (events_in format e).kind i ≤ 2 → amounts_in format e i x ≤ highest_capability
unfolding units_fine
amount_bound format u e units listed h i x l m kind =
    let place = events_place (units_in format u) (events_in format e) i listed l in
    le_trans (amount_capability format u e h i x l m kind) (capability_range format u _ (all_at (units_in format u).count _ (unit_fine format u) place units))
