-- The promise on the bytes of a case: units 12 and 13, an energy reference of 2,000 for unit 12, and its Day-Ahead energy bids, 8,001 in hour 0 and
-- 0 in the others. The line is 8,000.
use Prim.Native.Nat.{ℕ}
use mathlib.Core.Bool.{true, false}
use mathlib.Core.List.{List, []}
use mathlib.Core.Path.{◌≡◌, refl, ap, ◌∙◌}
use lib.Dec.{lit<}
use Rattle.binary.specs.Bounded.{any_to, all_to, last_to, bit_of}
use Rattle.binary.specs.Bytes.{value_at, bytes_of}
use Rattle.binary.specs.Word.{positive_part, negative_part, within}
use Rattle.calendar.specs.Months.{month_length, month_start, month_from, month_of}
use Rattle.calendar.specs.Periods.{period_of}
use Rattle.tariff.specs.Ranges.{reference_in_range, bid_in_range}
use Rattle.tariff.specs.Threshold.{threshold_of}
use Rattle.casefile.specs.Layout.{first_widths, widths_of}
use Rattle.casefile.specs.Decode.{format_in, case_in, offset_of, length_of, section_of, record_at, units_in, references_in, violation_in, past_in, cells_from, cells_in, events_in, amounts_in, decode, unit_spare_fine, reference_spare_fine, entry_spare_fine}
use Rattle.casefile.specs.Lookup.{is_unit, is_listed, place_of, unit_of, is_reference, reference_key, has_reference, level_of, reference_of, correct_references, reads_correct}
use Rattle.limits.specs.Refusal.{length_fine, version_fine, sections_fine, pairs_fine, size_fine, sizes_fine, record_numbers_fine, unit_numbers_fine, reference_numbers_fine, event_numbers_fine, numbers_fine, rises, unit_fields_fine, unit_fine, units_fine, reference_fields_fine, reference_fine, references_fine, correction_fine, violation_fine, entry_fine, past_fine, mask_fine, quantities_fine, fields_fine, cell_fine, hour_fine, event_fine, events_fine, days_fine, periods_fine, event_key, order_fine, event_listed, events_listed, within_capability, amount_fine, amounts_fine, reference_found, references_found, rows_fine, refusal}
use Rattle.conduct.specs.Flags.{tight, flagged}
use Rattle.line.specs.OpenLine.{lower_line, clause_asked, energy_line, is_time, over_sum, open_line}
use Rattle.line.specs.BidLine.{line_of, no_higher, good_side}
use Rattle.calls.specs.Answers.{given}
use Rattle.casefile.specs.File.{headed, file_in}
use Rattle.worked_files.specs.Files.{file_of, unit_bytes, reference_bytes, event_bytes, units}
use Rattle.case_lines.specs.CaseLine.{line_at, answer_at}
use Rattle.case_lines.proofs.CaseLineLaws.{lines_of}

unfoldable pub file : List ℕ
file = file_of units (reference_bytes 12 0 2000) [] (event_bytes 4 0 12 44 0 8000 8001 0)

pub is_accepted : refusal file [] 128 ≡ 0
unfolding file headed file_in file_of unit_bytes reference_bytes event_bytes units any_to all_to last_to value_at bytes_of positive_part negative_part within first_widths widths_of format_in offset_of length_of section_of record_at units_in references_in violation_in past_in cells_from cells_in events_in amounts_in is_unit is_listed place_of is_reference has_reference correct_references length_fine version_fine sections_fine pairs_fine size_fine sizes_fine record_numbers_fine unit_numbers_fine reference_numbers_fine event_numbers_fine numbers_fine rises unit_fields_fine unit_spare_fine reference_spare_fine entry_spare_fine unit_fine units_fine reference_fields_fine reference_key reference_fine references_fine correction_fine violation_fine entry_fine past_fine mask_fine quantities_fine fields_fine reference_in_range bid_in_range cell_fine hour_fine event_fine events_fine month_length month_start month_from month_of period_of days_fine periods_fine event_key order_fine event_listed events_listed within_capability amount_fine amounts_fine reads_correct reference_found references_found rows_fine refusal
is_accepted = refl

pub line_8000 : line_at (decode file) 0 0 ≡ 8000
unfolding file headed file_in file_of unit_bytes reference_bytes event_bytes units any_to last_to bit_of value_at bytes_of first_widths widths_of format_in offset_of length_of section_of record_at units_in references_in cells_from cells_in events_in amounts_in decode case_in is_unit place_of unit_of is_reference level_of reference_of threshold_of tight lower_line clause_asked energy_line is_time open_line line_of line_at
line_8000 = refl

-- the call gives it
pub given_8000 : answer_at (decode file) 0 0 ≡ given 8000
unfolding file headed file_in file_of unit_bytes reference_bytes event_bytes units value_at bytes_of first_widths widths_of format_in offset_of length_of section_of record_at events_in decode case_in
given_8000 =
    (lines_of file [] 128 is_accepted).given_at 0 0 (record { event = lit< tt; hour = lit< tt; bid = refl })
    ∙ ap given line_8000

-- a cent above the line
pub above_flagged : flagged (decode file) 0 0 ≡ true
unfolding file headed file_in file_of unit_bytes reference_bytes event_bytes units any_to last_to bit_of value_at bytes_of positive_part negative_part first_widths widths_of format_in offset_of length_of section_of record_at units_in references_in cells_from cells_in events_in amounts_in decode case_in is_unit place_of unit_of is_reference level_of reference_of threshold_of tight lower_line clause_asked energy_line is_time open_line line_of no_higher good_side line_at over_sum
above_flagged = (lines_of file [] 128 is_accepted).flagged_at 0 0 (record { event = lit< tt; hour = lit< tt; bid = refl })

-- nothing bid
pub none_passes : flagged (decode file) 0 1 ≡ false
unfolding file headed file_in file_of unit_bytes reference_bytes event_bytes units any_to last_to bit_of value_at bytes_of positive_part negative_part first_widths widths_of format_in offset_of length_of section_of record_at units_in references_in cells_from cells_in events_in amounts_in decode case_in is_unit place_of unit_of is_reference level_of reference_of threshold_of tight lower_line clause_asked energy_line is_time open_line line_of no_higher good_side line_at over_sum
none_passes = (lines_of file [] 128 is_accepted).flagged_at 0 1 (record { event = lit< tt; hour = lit< tt; bid = refl })
