-- The numbers of the layout (docs/RULES.md, B): what the versions of the file share, and then what a version decides.
use Rattle.std.specs.Prelude.{ℕ, ◌+◌, ◌*◌, ◌^◌, ◌≤◌, Bool, cond, ◌⊎◌, ◌≡◌, eqb}
use Rattle.tariff.specs.DefaultBidRules.{day_hours}
use Rattle.casefile.specs.declared.layout.Format.{Format}
use Rattle.casefile.specs.declared.layout.Widths.{Widths}

-- the versions of the file
abbrev pub first_version : ℕ
first_version = 1

abbrev pub second_version : ℕ
second_version = 2

abbrev pub section_count : ℕ
section_count = 4

abbrev pub header_width : ℕ
header_width = 36

abbrev pub longest_file : ℕ
longest_file = 65000

-- a past entry
abbrev pub past_width : ℕ
past_width = 12

-- the fields of a unit and of a reference stand within so many bytes, but for a unit's number
abbrev pub unit_fields : ℕ
unit_fields = 24

abbrev pub reference_fields : ℕ
reference_fields = 8

-- the hour cells begin here in an event's record
abbrev pub cells_offset : ℕ
cells_offset = 24

abbrev pub cell_width : ℕ
cell_width = 12

-- the most hours of a day, as the rules have them: the bits of a mask
abbrev pub most_hours : ℕ
most_hours = day_hours

abbrev pub most_units : ℕ
most_units = 64

abbrev pub most_references : ℕ
most_references = 256

abbrev pub most_past : ℕ
most_past = 256

abbrev pub most_events : ℕ
most_events = 200

-- the bids in force begin here in a row
abbrev pub bids_offset : ℕ
bids_offset = 32

-- the highest number of a unit in version 2, of six digits (17)
abbrev pub highest_number : ℕ
highest_number = 999999

-- the keys of an order leave room for numbers below this
abbrev pub number_limit : ℕ
number_limit = 2 ^ 20

-- ---- what a version decides

-- the widths of the records, and where a unit's number stands in each, with its width: version 1
unfoldable pub first_widths : Widths
first_widths =
    record {
      unit_width = 24;
      unit_number = 0;
      reference_width = 8;
      reference_unit = 0;
      event_width = 312;
      event_unit = 2;
      number_width = 2;
    }

-- version 2: four bytes at the end of a unit, a reference and an event
unfoldable pub second_widths : Widths
second_widths =
    record {
      unit_width = 28;
      unit_number = 24;
      reference_width = 12;
      reference_unit = 8;
      event_width = 316;
      event_unit = 312;
      number_width = 4;
    }

-- the widths of a format: an unknown version, which limit 2 refuses, is read as the first
unfoldable pub widths_of : Format → Widths
widths_of format = cond (eqb format.version second_version) second_widths first_widths

abbrev pub unit_width : Format → ℕ
unit_width format = (widths_of format).unit_width

abbrev pub unit_number : Format → ℕ
unit_number format = (widths_of format).unit_number

abbrev pub reference_width : Format → ℕ
reference_width format = (widths_of format).reference_width

abbrev pub reference_unit : Format → ℕ
reference_unit format = (widths_of format).reference_unit

abbrev pub event_width : Format → ℕ
event_width format = (widths_of format).event_width

abbrev pub event_unit : Format → ℕ
event_unit format = (widths_of format).event_unit

abbrev pub number_width : Format → ℕ
number_width format = (widths_of format).number_width

-- a unit's number stands in the two bytes of version 1
abbrev pub old_numbers : Format → Bool
old_numbers format = eqb (number_width format) 2

-- the hour cells of an event: one for each hour that a day can have
abbrev pub cells : Format → ℕ
cells format = most_hours

-- a row of the rows buffer: its fields, and a bid in force for each cell; 128 bytes
abbrev pub row_width : Format → ℕ
row_width format = bids_offset + 4 * cells format

-- each field stands within its record, an event's number before or after its hour cells, and a number has two bytes or four
pub record Fits (w : Widths) : Type 0 where
  pub unit : unit_fields ≤ w.unit_width
  pub reference : reference_fields ≤ w.reference_width
  pub event : cells_offset + cell_width * most_hours ≤ w.event_width
  pub unit_number_is : w.unit_number + w.number_width ≤ w.unit_width
  pub reference_unit_holds : w.reference_unit + w.number_width ≤ w.reference_width
  pub event_unit_holds : w.event_unit + w.number_width ≤ w.event_width
  pub event_apart :
      (w.event_unit + w.number_width ≤ cells_offset) ⊎ (cells_offset + cell_width * most_hours ≤ w.event_unit)
  pub number : (w.number_width ≡ 2) ⊎ (w.number_width ≡ 4)
