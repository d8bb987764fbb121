-- What a version 2 file can break (docs/RULES.md, L19), by computation: each field of a number, the order of the numbers, and what comes
-- before 17 and after it.
use Prim.Native.Nat.{ℕ}
use mathlib.Core.List.{List, [], ◌++◌}
use mathlib.Core.Path.{◌≡◌, refl}
use Rattle.binary.specs.Bounded.{any_to, all_to, last_to}
use Rattle.binary.specs.Bytes.{value_at, bytes_of}
use Rattle.binary.specs.Word.{positive_part, negative_part, within}
use Rattle.calendar.specs.Months.{month_length, month_start, month_from, month_of}
use Rattle.calendar.specs.Periods.{period_of}
use Rattle.tariff.specs.Ranges.{reference_in_range, bid_in_range}
use Rattle.casefile.specs.Layout.{second_version, first_widths, second_widths, widths_of}
use Rattle.casefile.specs.Decode.{format_in, offset_of, length_of, section_of, record_at, units_in, references_in, violation_in, past_in, cells_from, cells_in, events_in, amounts_in, old_number, unit_spare_fine, reference_spare_fine, entry_spare_fine}
use Rattle.casefile.specs.Lookup.{is_unit, is_listed, place_of, is_reference, reference_key, has_reference, correct_references, reads_correct}
use Rattle.limits.specs.Refusal.{length_fine, version_fine, sections_fine, pairs_fine, size_fine, sizes_fine, number_fine, record_numbers_fine, unit_numbers_fine, reference_numbers_fine, event_numbers_fine, numbers_fine, rises, unit_fields_fine, unit_fine, units_fine, reference_fields_fine, reference_fine, references_fine, correction_fine, violation_fine, entry_fine, past_fine, mask_fine, quantities_fine, fields_fine, cell_fine, hour_fine, event_fine, events_fine, days_fine, periods_fine, event_key, order_fine, event_listed, events_listed, within_capability, amount_fine, amounts_fine, reference_found, references_found, rows_fine, refusal}
use Rattle.casefile.specs.File.{headed, file_in}
use Rattle.worked_files.specs.Files.{unit_bytes, reference_bytes, entry_bytes, event_bytes, withheld}

-- a record of version 1, its old field as it is given, with its number in four bytes more
unfoldable pub wide_unit : (old number area capability : ℕ) → List ℕ
wide_unit old number area capability = unit_bytes old 1 area capability ++ bytes_of 4 number

unfoldable pub wide_reference : (old unit component value : ℕ) → List ℕ
wide_reference old unit component value = reference_bytes old component value ++ bytes_of 4 unit

unfoldable pub wide_event : (old unit : ℕ) → List ℕ
wide_event old unit = withheld 0 old 501 ++ bytes_of 4 unit

-- two units, with the numbers 12 and 65,548, whose low two bytes are those of 12
unfoldable pub two_units : List ℕ
two_units = wide_unit 0 12 0 5000 ++ wide_unit 0 65548 0 15000

-- a version 2 file with no past
abbrev pub file : (units references events : List ℕ) → List ℕ
file u r e = file_in second_version u r [] e

pub record Examples : Type 0 where
  -- a number of two bytes stands in the new field too; the highest number
  pub both_numbers : refusal (file two_units [] (wide_event 0 12)) [] 128 ≡ 0
  pub highest_number_is : refusal (file (wide_unit 0 999999 0 5000) (wide_reference 0 999999 0 2000) (wide_event 0 999999)) (wide_reference 0 999999 0 2100) 128 ≡ 0
  -- neither version
  pub no_version : refusal (headed 0 4 36 0 0 0 0 []) [] 0 ≡ 2
  pub third_version : refusal (headed 3 4 36 0 0 0 0 []) [] 0 ≡ 2
  -- records of version 1
  pub first_records : refusal (file (unit_bytes 12 1 0 5000) [] []) [] 0 ≡ 5
  -- 5 comes before 17
  pub size_first : refusal (file (wide_unit 0 1000000 0 5000) (reference_bytes 12 0 2000) []) [] 0 ≡ 5
  -- seven digits
  pub unit_number_is : refusal (file (wide_unit 0 1000000 0 5000) [] []) [] 0 ≡ 17
  pub reference_number : refusal (file two_units (wide_reference 0 1000000 0 2000) []) [] 0 ≡ 17
  pub event_number : refusal (file two_units [] (wide_event 0 1000000)) [] 128 ≡ 17
  pub correction_number : refusal (file two_units [] []) (wide_reference 0 1000000 0 2000) 0 ≡ 8
  -- an old field that is not 0
  pub unit_old : refusal (file (wide_unit 12 12 0 5000) [] []) [] 0 ≡ 17
  pub reference_old : refusal (file two_units (wide_reference 12 12 0 2000) []) [] 0 ≡ 17
  pub event_old : refusal (file two_units [] (wide_event 12 12)) [] 128 ≡ 17
  pub correction_old : refusal (file two_units [] []) (wide_reference 12 12 0 2000) 0 ≡ 8
  -- an event's number comes before a unit's fields
  pub event_before_unit : refusal (file (wide_unit 0 12 2 5000) [] (wide_event 1 12)) [] 128 ≡ 17
  -- numbers rise by all their digits
  pub unit_order : refusal (file (wide_unit 0 65548 0 5000 ++ wide_unit 0 12 0 15000) [] []) [] 0 ≡ 6
  -- an event's unit is not the one with the same low two bytes
  pub not_listed : refusal (file (wide_unit 0 65548 0 5000) [] (wide_event 0 12)) [] 128 ≡ 12

pub examples : Examples
unfolding wide_unit wide_reference wide_event two_units headed file_in unit_bytes reference_bytes entry_bytes event_bytes withheld any_to all_to last_to value_at bytes_of positive_part negative_part within first_widths widths_of format_in offset_of length_of section_of record_at units_in references_in violation_in past_in cells_from cells_in events_in amounts_in is_unit is_listed place_of is_reference has_reference correct_references length_fine version_fine sections_fine pairs_fine size_fine sizes_fine record_numbers_fine unit_numbers_fine reference_numbers_fine event_numbers_fine numbers_fine rises unit_fields_fine unit_spare_fine reference_spare_fine entry_spare_fine unit_fine units_fine reference_fields_fine reference_key reference_fine references_fine correction_fine violation_fine entry_fine past_fine mask_fine quantities_fine fields_fine reference_in_range bid_in_range cell_fine hour_fine event_fine events_fine month_length month_start month_from month_of period_of days_fine periods_fine event_key order_fine event_listed events_listed within_capability amount_fine amounts_fine reads_correct reference_found references_found rows_fine refusal second_widths number_fine old_number
examples =
    record {
      both_numbers = refl;
      highest_number_is = refl;
      no_version = refl;
      third_version = refl;
      first_records = refl;
      size_first = refl;
      unit_number_is = refl;
      reference_number = refl;
      event_number = refl;
      correction_number = refl;
      unit_old = refl;
      reference_old = refl;
      event_old = refl;
      correction_old = refl;
      event_before_unit = refl;
      unit_order = refl;
      not_listed = refl;
    }
