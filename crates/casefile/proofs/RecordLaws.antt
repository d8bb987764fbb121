-- Parts of a section's bytes, and what the sections of a file say of its case.
use Prim.Native.Nat.{ℕ, zero, suc, ◌+◌, ◌-◌, ◌*◌, ◌/◌, ◌^◌, ◌≤◌, ◌<◌}
use mathlib.Core.Bool.{Bool, true, false, cond, true≢false}
use mathlib.Core.List.{List}
use mathlib.Core.Logic.{inl, inr, ⊎_elim}
use mathlib.Core.Path.{◌≡◌, refl, sym, ap, ◌∙◌}
use native.Mathlib.Nat.{pow-suc, mul-le-mul_left, mul-div-le, mul-suc}
use native.Mathlib.Omega.{arith}
use lib.Dec.{ltb, eqb}
use lib.ListN.{length, get_or, take, drop, length-take, length-drop, get_or-eq_default}
use lib.Seq.{take_all, get_or-take, get_or-drop}
use borrow.Author.Tests.{ltb-true, ltb-false, eq-eqb, ne_eqb}
use Rattle.binary.specs.Bytes.{value_at}
use Rattle.binary.specs.Lists.{Bytes}
use Rattle.casefile.specs.declared.layout.Format.{Format}
use Rattle.casefile.specs.declared.layout.Widths.{Widths}
use Rattle.casefile.specs.Layout.{reference_width, event_width, event_unit, number_width, cell_width, cells, cells_offset, number_limit, first_version, second_version, first_widths, second_widths, widths_of, old_numbers, Fits}
use Rattle.casefile.specs.Decode.{format_in, offset_of, length_of, section_of, record_at, cells_from, cells_in, references_in, events_in, case_in, decode}
use Rattle.casefile.specs.StageRead.{event_at}
use Rattle.casefile.specs.declared.events.Event.{Event}

-- the part from byte a on
pub rest : (a : ℕ) (s : List ℕ) → take (length s - a) (drop a s) ≡ drop a s
rest a s = take_all (length s - a) (drop a s) (omega (arith, length-drop a s))

-- record i lies whole within n bytes
pub record_end : (w n i : ℕ) → i < n / w → w * i + w ≤ n
record_end w n i l =
    let a = mul-le-mul_left w l in
    let b = mul-div-le n w in
    let e = mul-suc w i in
    omega arith

-- a byte of a section stands in one record
pub one_record : (w x i q r : ℕ) → q < w → r < w → w * x + q ≡ w * i + r → x ≡ i
one_record w x i q r lq lr e = go (ltb x i) refl (ltb i x) refl
  where
    below : (a b : ℕ) → a < b → w * a + w ≤ w * b
    below a b l = let m = mul-le-mul_left w l in let n = mul-suc w a in omega arith

    go : (a : Bool) → ltb x i ≡ a → (b : Bool) → ltb i x ≡ b → x ≡ i
    go true ea b eb = absurd (let m = below x i (ltb-true x i ea) in omega arith)
    go false ea true eb = absurd (let m = below i x (ltb-true i x eb) in omega arith)
    go false ea false eb = let k = ltb-false x i ea in let l = ltb-false i x eb in omega arith

-- ---- widths

-- the widths of each version fit
pub first_fits : Fits first_widths
unfolding first_widths
first_fits =
    record {
      unit = omega arith;
      reference = omega arith;
      event = omega arith;
      unit_number_is = omega arith;
      reference_unit_holds = omega arith;
      event_unit_holds = omega arith;
      event_apart = inl (omega arith);
      number = inl refl;
    }

pub second_fits : Fits second_widths
unfolding second_widths
second_fits =
    record {
      unit = omega arith;
      reference = omega arith;
      event = omega arith;
      unit_number_is = omega arith;
      reference_unit_holds = omega arith;
      event_unit_holds = omega arith;
      event_apart = inr (omega arith);
      number = inr refl;
    }

pub fits : (format : Format) → Fits (widths_of format)
unfolding widths_of
fits format = go (eqb format.version second_version)
  where
    go : (b : Bool) → Fits (cond b second_widths first_widths)
    go true = second_fits
    go false = first_fits

-- a number that does not stand where version 1 has it has four bytes
pub long_number : (format : Format) → old_numbers format ≡ false → number_width format ≡ 4
long_number format h = ⊎_elim (λ two. absurd (true≢false (sym (eq-eqb _ _ two) ∙ h))) (λ four. four) (fits format).number

-- any version but the second has the widths of the first
pub first_widths_is : (format : Format) → (format.version ≡ second_version → ⊥) → widths_of (record { version = first_version }) ≡ widths_of format
unfolding widths_of
first_widths_is format other = rw (ne_eqb format.version second_version other)

-- the events by the widths alone
pub events_by_widths : (a b : Format) (s : List ℕ) → widths_of a ≡ widths_of b → events_in a s ≡ events_in b s
unfolding events_in cells_in cells_from
events_by_widths a b s e =
    rw (
      ap (λ (w : Widths). w.event_width) e,
      ap (λ (w : Widths). w.event_unit) e,
      ap (λ (w : Widths). w.number_width) e,
    )

-- ---- bytes

take_bytes : (n : ℕ) (l : List ℕ) → Bytes l → Bytes (take n l)
take_bytes n l b j = go (ltb j n) refl
  where
    go : (t : Bool) → ltb j n ≡ t → get_or (take n l) j 0 < 256
    go true e = rw (get_or-take n l j 0 (ltb-true j n e)) (b j)
    go false e =
        let m = ltb-false j n e in
        let k = length-take n l in
        rw (get_or-eq_default (take n l) 0 {n = j} (omega arith)) (omega arith)

drop_bytes : (n : ℕ) (l : List ℕ) → Bytes l → Bytes (drop n l)
drop_bytes n l b j = rw (get_or-drop n l j 0) (b (n + j))

record_bytes : (width : ℕ) (s : List ℕ) (i : ℕ) → Bytes s → Bytes (record_at width s i)
unfolding record_at
record_bytes width s i b = take_bytes width (drop (width * i) s) (drop_bytes (width * i) s b)

pub section_bytes : (f : List ℕ) (k : ℕ) → Bytes f → Bytes (section_of f k)
unfolding section_of
section_bytes f k b = take_bytes (length_of f k) (drop (offset_of f k) f) (drop_bytes (offset_of f k) f b)

pub cells_bytes : (format : Format) (s : List ℕ) (i : ℕ) → Bytes s → Bytes (cells_in format s i)
unfolding cells_in cells_from
cells_bytes format s i b =
    take_bytes (cell_width * cells format) (drop cells_offset (record_at (event_width format) s i))
    (drop_bytes cells_offset (record_at (event_width format) s i) (record_bytes (event_width format) s i b))

-- a number of w bytes
pub value_lt : (w : ℕ) (s : List ℕ) (p : ℕ) → Bytes s → value_at w s p < 256 ^ w
unfolding value_at
value_lt zero s p b = omega arith
value_lt (suc w) s p b = omega (arith, b p, value_lt w s (p + 1) b, pow-suc 256 w)

-- a number of two bytes leaves room in a key
pub event_unit_lt : (format : Format) (s : List ℕ) (i : ℕ) → Bytes s → number_width format ≡ 2 → (events_in format s).unit i < number_limit
unfolding events_in
event_unit_lt format s i b two =
    rw two (omega (arith, value_lt 2 (record_at (event_width format) s i) (event_unit format) (record_bytes (event_width format) s i b)))

-- a reference's component is a byte
pub component_byte : (format : Format) (s : List ℕ) → Bytes s → (i : ℕ) → i < (references_in format s).count → (references_in format s).component i < 256
unfolding references_in
component_byte format s b i l = record_bytes (reference_width format) s i b 2

-- ---- the sections of a file, as they are handed on

-- how many events
pub count_is : (format : Format) (f e : List ℕ) → format ≡ format_in f → e ≡ section_of f 3 → (events_in format e).count ≡ (decode f).events.count
unfolding decode case_in
count_is format f e ef ee = rw (ef, ee)

-- the kind of an event
pub kind_in : (format : Format) (f e : List ℕ) → format ≡ format_in f → e ≡ section_of f 3 → (i : ℕ) → (events_in format e).kind i ≡ (decode f).events.kind i
unfolding decode case_in
kind_in format f e ef ee i = rw (ef, ee)

pub kind_here : (format : Format) (e : List ℕ) (event : Event) (i : ℕ) → event ≡ event_at (events_in format e) i → event.kind ≡ (events_in format e).kind i
unfolding event_at
kind_here format e event i q = rw q

pub kind_of : (format : Format) (f e : List ℕ) → format ≡ format_in f → e ≡ section_of f 3 → (event : Event) (i : ℕ) → event ≡ event_at (events_in format e) i
    → event.kind ≡ (decode f).events.kind i
kind_of format f e ef ee event i q = kind_here format e event i q ∙ kind_in format f e ef ee i
