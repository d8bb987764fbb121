-- From the bytes of a case file to the case (docs/RULES.md, B).
use Rattle.std.specs.Prelude.{ℕ, ◌+◌, ◌*◌, ◌/◌, ◌≤◌, ◌<◌, Bool, ◌&&◌, List, ◌≡◌, eqb, length, take, drop}
use Rattle.binary.specs.Bytes.{byte_at, u16_at, u32_at, value_at}
use Rattle.casefile.specs.declared.layout.Format.{Format}
use Rattle.casefile.specs.Layout.{section_count, header_width, unit_width, unit_number, reference_width, reference_unit, past_width, event_width, event_unit, number_width, cells_offset, cell_width, cells}
use Rattle.casefile.specs.Case.{Units, References, Violation, Past, Events, Case}

-- the pair of section k (0 units, 1 references, 2 past, 3 events), and the section: that stretch of the file itself
unfoldable pub offset_of : List ℕ → ℕ → ℕ
offset_of f k = u32_at f (4 + 8 * k)

unfoldable pub length_of : List ℕ → ℕ → ℕ
length_of f k = u32_at f (8 + 8 * k)

unfoldable pub section_of : List ℕ → ℕ → List ℕ
section_of f k = take (length_of f k) (drop (offset_of f k) f)

-- the format of a file: its version
unfoldable pub format_in : List ℕ → Format
format_in f = record { version = u16_at f 0 }

-- how many sections the file says it has
abbrev pub sections_in : List ℕ → ℕ
sections_in f = u16_at f 2

-- the pairs follow on, from the header's end to the file's end
pub record FollowOn (f : List ℕ) : Type 0 where
  pub units : offset_of f 0 ≡ header_width
  pub references : offset_of f 1 ≡ offset_of f 0 + length_of f 0
  pub past : offset_of f 2 ≡ offset_of f 1 + length_of f 1
  pub events : offset_of f 3 ≡ offset_of f 2 + length_of f 2
  pub end : length f ≡ offset_of f 3 + length_of f 3

-- the header and section k lie within the file
pub record HasSection (f : List ℕ) (k : ℕ) : Type 0 where
  pub known : k < section_count
  pub header : header_width ≤ length f
  pub inside : offset_of f k + length_of f k ≤ length f

-- record i of a section whose records have that width
unfoldable pub record_at : (width : ℕ) → List ℕ → ℕ → List ℕ
record_at width s i = take width (drop (width * i) s)

unfoldable pub units_in : Format → List ℕ → Units
units_in format s =
    record {
      count = length s / unit_width format;
      number = λ i. value_at (number_width format) (record_at (unit_width format) s i) (unit_number format);
      group = λ i. u16_at (record_at (unit_width format) s i) 2;
      area = λ i. byte_at (record_at (unit_width format) s i) 4;
      capability = λ i. u32_at (record_at (unit_width format) s i) 8;
      rate = λ i. u32_at (record_at (unit_width format) s i) 12;
      average_price = λ i. u32_at (record_at (unit_width format) s i) 16;
      constrained_hours = λ i. u16_at (record_at (unit_width format) s i) 20;
    }

unfoldable pub references_in : Format → List ℕ → References
references_in format s =
    record {
      count = length s / reference_width format;
      unit = λ i. value_at (number_width format) (record_at (reference_width format) s i) (reference_unit format);
      component = λ i. byte_at (record_at (reference_width format) s i) 2;
      value = λ i. u32_at (record_at (reference_width format) s i) 4;
    }

unfoldable pub violation_in : List ℕ → Violation
violation_in r =
    record {
      group = u16_at r 0;
      kind = byte_at r 2;
      market = byte_at r 3;
      period = u16_at r 4;
      day = u32_at r 8;
    }

unfoldable pub past_in : List ℕ → Past
past_in s = record { count = length s / past_width; entry = λ i. violation_in (record_at past_width s i) }

-- where the cell of an hour stands in an event's record
abbrev pub cell_at : ℕ → ℕ
cell_at h = cells_offset + cell_width * h

-- the part of event i's record where its cells begin, and the cells: nothing that follows the last
unfoldable pub cells_from : Format → List ℕ → ℕ → List ℕ
cells_from format s i = drop cells_offset (record_at (event_width format) s i)

unfoldable pub cells_in : Format → List ℕ → ℕ → List ℕ
cells_in format s i = take (cell_width * cells format) (cells_from format s i)

unfoldable pub events_in : Format → List ℕ → Events
events_in format s =
    record {
      count = length s / event_width format;
      kind = λ i. byte_at (record_at (event_width format) s i) 0;
      market = λ i. byte_at (record_at (event_width format) s i) 1;
      unit = λ i. value_at (number_width format) (record_at (event_width format) s i) (event_unit format);
      period = λ i. u16_at (record_at (event_width format) s i) 4;
      component = λ i. byte_at (record_at (event_width format) s i) 6;
      impact = λ i. byte_at (record_at (event_width format) s i) 7;
      day = λ i. u32_at (record_at (event_width format) s i) 8;
      hours = λ i. cells format;
      P = λ i. u32_at (record_at (event_width format) s i) 12;
      Q = λ i. u32_at (record_at (event_width format) s i) 16;
      R = λ i. u32_at (record_at (event_width format) s i) 20;
      b = λ i h. u32_at (cells_in format s i) (cell_width * h + 4);
      m = λ i h. u32_at (cells_in format s i) (cell_width * h + 8);
    }

-- a of event i and hour h
unfoldable pub amounts_in : Format → List ℕ → ℕ → ℕ → ℕ
amounts_in format s i h = u32_at (cells_in format s i) (cell_width * h)

-- the case of four sections
unfoldable pub case_in : Format → (units references past events : List ℕ) → Case
case_in format u r p e =
    record {
      units = units_in format u;
      references = references_in format r;
      past = past_in p;
      events = events_in format e;
      a = amounts_in format e;
    }

unfoldable pub decode : List ℕ → Case
decode f = case_in (format_in f) (section_of f 0) (section_of f 1) (section_of f 2) (section_of f 3)

-- ---- the two bytes of a record where version 1 has a unit's number

unfoldable pub old_number : (width at : ℕ) → List ℕ → ℕ → ℕ
old_number width at s i = u16_at (record_at width s i) at

-- ---- spare bytes

-- bytes 5 to 7 and 22 to 23 of a unit's record
unfoldable pub unit_spare_fine : List ℕ → Bool
unit_spare_fine r = eqb (byte_at r 5) 0 && eqb (u16_at r 6) 0 && eqb (u16_at r 22) 0

-- byte 3 of a reference's
unfoldable pub reference_spare_fine : List ℕ → Bool
reference_spare_fine r = eqb (byte_at r 3) 0

-- bytes 6 to 7 of a past entry's
unfoldable pub entry_spare_fine : List ℕ → Bool
entry_spare_fine r = eqb (u16_at r 6) 0
