-- The examples of 18 and 19, by computation: the last day of the calendar is accepted; then each number over past entries of
-- both kinds and events, and what comes before which.
use mathlib.Core.List.{[], ◌++◌}
use mathlib.Core.Path.{◌≡◌, refl}
use Rattle.binary.specs.Bounded.{any_to, all_to, last_to}
use Rattle.binary.specs.Bytes.{value_at, bytes_of}
use Rattle.binary.specs.Word.{positive_part, negative_part, within}
use Rattle.calendar.specs.Months.{month_length, month_start, month_from, month_of}
use Rattle.calendar.specs.Periods.{period_of}
use Rattle.tariff.specs.Ranges.{reference_in_range, bid_in_range}
use Rattle.casefile.specs.Layout.{first_widths, widths_of}
use Rattle.casefile.specs.Decode.{format_in, offset_of, length_of, section_of, record_at, units_in, references_in, violation_in, past_in, cells_from, cells_in, events_in, amounts_in, unit_spare_fine, reference_spare_fine, entry_spare_fine}
use Rattle.casefile.specs.Lookup.{is_unit, is_listed, place_of, is_reference, reference_key, has_reference, correct_references, reads_correct}
use Rattle.limits.specs.Refusal.{length_fine, version_fine, sections_fine, pairs_fine, size_fine, sizes_fine, record_numbers_fine, unit_numbers_fine, reference_numbers_fine, event_numbers_fine, numbers_fine, rises, unit_fields_fine, unit_fine, units_fine, reference_fields_fine, reference_fine, references_fine, correction_fine, violation_fine, entry_fine, past_fine, mask_fine, quantities_fine, fields_fine, cell_fine, hour_fine, event_fine, events_fine, days_fine, periods_fine, event_key, order_fine, event_listed, events_listed, within_capability, amount_fine, amounts_fine, reference_found, references_found, rows_fine, refusal}
use Rattle.casefile.specs.File.{headed, file_in}
use Rattle.worked_files.specs.Files.{file_of, unit_bytes, reference_bytes, entry_bytes, event_bytes, units, withheld, listing}

pub record Examples : Type 0 where
  pub last_day : refusal (file_of units [] (entry_bytes 1 3 0 200 36524) (event_bytes 1 0 12 200 1 36524 501 4000)) [] 128 ≡ 0
  pub event_day : refusal (file_of units [] [] (event_bytes 1 0 12 200 1 36525 501 4000)) [] 128 ≡ 18
  pub past_day : refusal (file_of units [] (entry_bytes 1 1 0 200 36525) []) [] 0 ≡ 18
  pub fuel_day_is : refusal (file_of units [] (entry_bytes 1 3 0 200 1000000) []) [] 0 ≡ 18
  pub past_unread : refusal (file_of units [] (entry_bytes 1 1 0 200 1000001) []) [] 0 ≡ 9
  pub event_unread : refusal (file_of units [] [] (event_bytes 1 0 12 200 1 1000001 501 4000)) [] 128 ≡ 10
  pub event_period : refusal (file_of units [] [] (event_bytes 1 0 12 43 1 8000 501 4000)) [] 128 ≡ 19
  pub past_period : refusal (file_of units [] (entry_bytes 1 1 0 43 8000) []) [] 0 ≡ 19
  pub fuel_period : refusal (file_of units [] (entry_bytes 1 3 0 43 8000) []) [] 0 ≡ 19
  pub no_such_period : refusal (file_of units [] [] (event_bytes 1 0 12 201 1 36524 501 4000)) [] 128 ≡ 19
  pub day_first : refusal (file_of units [] (entry_bytes 1 1 0 43 8000) (event_bytes 1 0 12 200 1 36525 501 4000)) [] 128 ≡ 18
  pub period_before_order : refusal (file_of units [] (entry_bytes 1 1 0 43 8000) (event_bytes 1 0 12 44 1 8000 501 4000 ++ event_bytes 1 0 12 44 1 8000 501 4000)) [] 256 ≡ 19
  pub reading_before_day : refusal (file_of units [] (entry_bytes 1 1 0 200 36525) (event_bytes 1 2 12 44 1 8000 501 4000)) [] 128 ≡ 10

pub examples : Examples
unfolding headed file_in file_of unit_bytes reference_bytes entry_bytes event_bytes units withheld listing any_to all_to last_to value_at bytes_of positive_part negative_part within first_widths widths_of format_in offset_of length_of section_of record_at units_in references_in violation_in past_in cells_from cells_in events_in amounts_in is_unit is_listed place_of is_reference has_reference correct_references length_fine version_fine sections_fine pairs_fine size_fine sizes_fine record_numbers_fine unit_numbers_fine reference_numbers_fine event_numbers_fine numbers_fine rises unit_fields_fine unit_spare_fine reference_spare_fine entry_spare_fine unit_fine units_fine reference_fields_fine reference_key reference_fine references_fine correction_fine violation_fine entry_fine past_fine mask_fine quantities_fine fields_fine reference_in_range bid_in_range cell_fine hour_fine event_fine events_fine month_length month_start month_from month_of period_of days_fine periods_fine event_key order_fine event_listed events_listed within_capability amount_fine amounts_fine reads_correct reference_found references_found rows_fine refusal
examples =
    record {
      last_day = refl;
      event_day = refl;
      past_day = refl;
      fuel_day_is = refl;
      past_unread = refl;
      event_unread = refl;
      event_period = refl;
      past_period = refl;
      fuel_period = refl;
      no_such_period = refl;
      day_first = refl;
      period_before_order = refl;
      reading_before_day = refl;
    }
