-- The version 2 copy of a version 1 file, and of a correction beside it (docs/RULES.md, B13): the number of each unit, reference and
-- event stands in four bytes at its record's end, and the two bytes where it stood are 0. Past entries stay.
use Rattle.std.specs.Prelude.{ℕ, ◌+◌, ◌-◌, ◌/◌, cond, ◌||◌, List, [], ◌≡◌, ltb, eqb, length}
use Rattle.binary.specs.Bytes.{byte_at}
use Rattle.binary.specs.Lists.{list_to, join_to}
use Rattle.casefile.specs.Layout.{first_version, second_version, first_widths}
use Rattle.casefile.specs.Decode.{format_in, section_of, record_at}
use Rattle.casefile.specs.File.{file_in}
use Rattle.limits.specs.Refusal.{refusal}
use Rattle.settlement.specs.Settled.{settled}
use Rattle.report.specs.Listing.{listing_of, listed_length, listed_out, listed_rows}

-- byte j of the copy of a record of that width, with its number at that place: the record, with 0 for its number; then the number's
-- two bytes, and two of 0
unfoldable pub copy_byte : (width at : ℕ) → (r : List ℕ) → ℕ → ℕ
copy_byte width at r j =
    cond (ltb j width) (cond (eqb j at || eqb j (at + 1)) 0 (byte_at r j)) (cond (ltb j (width + 2)) (byte_at r (at + (j - width))) 0)

unfoldable pub copy_record : (width at : ℕ) → (section : List ℕ) → ℕ → List ℕ
copy_record width at s i = list_to (width + 4) (copy_byte width at (record_at width s i))

unfoldable pub copy_records : (width at : ℕ) → (section : List ℕ) → List ℕ
copy_records width at s = join_to (length s / width) (copy_record width at s)

unfoldable pub copy_units : List ℕ → List ℕ
copy_units s = copy_records first_widths.unit_width first_widths.unit_number s

-- references, and a correction
unfoldable pub copy_references : List ℕ → List ℕ
copy_references s = copy_records first_widths.reference_width first_widths.reference_unit s

unfoldable pub copy_events : List ℕ → List ℕ
copy_events s = copy_records first_widths.event_width first_widths.event_unit s

unfoldable pub copy_of : (file : List ℕ) → List ℕ
copy_of f = file_in second_version (copy_units (section_of f 0)) (copy_references (section_of f 1)) (section_of f 2) (copy_events (section_of f 3))

-- a version 1 file is accepted with its correction and a rows buffer of that length, and so is its copy with the correction's copy
pub record BothAccepted (file correction : List ℕ) (rows_length : ℕ) : Type 0 where
  pub version : (format_in file).version ≡ first_version
  pub own : refusal file correction rows_length ≡ 0
  pub copied : refusal (copy_of file) (copy_references correction) rows_length ≡ 0

-- the promise (docs/RULES.md, A16): wherever both are accepted, the answer and every byte of the rows buffer are equal
abbrev pub SettlesAlike : (file correction rows : List ℕ) → Type 0
SettlesAlike file correction rows =
    BothAccepted file correction (length rows) → settled (copy_of file) (copy_references correction) rows ≡ settled file correction rows

-- and so are the listing's text, and what its call answers and leaves in its two buffers
pub record SameListing (file rows : List ℕ) : Type 0 where
  pub text : listing_of (copy_of file) rows ≡ listing_of file rows
  pub answer : (out : List ℕ) → listed_length (copy_of file) rows out ≡ listed_length file rows out
  pub out_left : (out : List ℕ) → listed_out (copy_of file) rows out ≡ listed_out file rows out
  pub rows_left : (out : List ℕ) → listed_rows (copy_of file) rows out ≡ listed_rows file rows out

abbrev pub ListsAlike : (file rows : List ℕ) → Type 0
ListsAlike file rows = BothAccepted file [] (length rows) → SameListing file rows
