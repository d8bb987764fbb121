-- The parts of a party-day of three plants by computation, from the bytes of the file, and the promise applied to it.
use Prim.Native.Nat.{◌-◌, ◌^◌}
use mathlib.Core.List.{[]}
use mathlib.Core.Path.{◌≡◌, refl}
use lib.Dec.{lit<}
use lib.IntN.{pos}
use Rattle.binary.specs.Bounded.{sum_to, any_to, all_to, last_to, bit_of}
use Rattle.binary.specs.Bytes.{value_at, bytes_of}
use Rattle.binary.specs.Integers.{signed, word, sum_ℤ_to}
use Rattle.binary.specs.Word.{positive_part, negative_part, within}
use Rattle.binary.specs.Lists.{join_to}
use Rattle.calendar.specs.Months.{month_length, month_start, month_from, month_of, day_of_month}
use Rattle.calendar.specs.Periods.{day_within, window_start, period_of}
use Rattle.tariff.specs.Ranges.{reference_in_range, bid_in_range}
use Rattle.tariff.specs.SanctionRules.{cents, fuel_day_counts, fuel_charge, fuel_penalty}
use Rattle.calls.specs.Answers.{refused, given}
use Rattle.penalty_calls.specs.SanctionCalls.{fuel_penalty_answer}
use Rattle.casefile.specs.Layout.{first_widths, widths_of}
use Rattle.casefile.specs.Decode.{format_in, case_in, offset_of, length_of, section_of, record_at, units_in, references_in, violation_in, past_in, cells_from, cells_in, events_in, amounts_in, decode, unit_spare_fine, reference_spare_fine, entry_spare_fine}
use Rattle.casefile.specs.Lookup.{reference_key, is_unit, is_listed, place_of, unit_of, group_of, is_reference, has_reference, correct_references, reads_correct, together}
use Rattle.casefile.specs.File.{headed, file_in}
use Rattle.limits.specs.Refusal.{length_fine, version_fine, sections_fine, pairs_fine, size_fine, sizes_fine, record_numbers_fine, unit_numbers_fine, reference_numbers_fine, event_numbers_fine, numbers_fine, rises, unit_fields_fine, unit_fine, units_fine, reference_fields_fine, reference_fine, references_fine, correction_fine, violation_fine, entry_fine, past_fine, mask_fine, quantities_fine, fields_fine, cell_fine, hour_fine, event_fine, events_fine, days_fine, periods_fine, event_key, order_fine, event_listed, events_listed, within_capability, amount_fine, amounts_fine, reference_found, references_found, rows_fine, refusal}
use Rattle.conduct.specs.Flags.{sum_together, fuel_flag}
use Rattle.sanctions.specs.Penalties.{party_day_sum, party_day_e, energy_part, gain, loss, tcc_change, lowest_unit, counts_fuel, past_fuel, fuel_stands, fuel_multiplier_after, fuel_penalty_under, prior_fuel, fuel_multiplier, fuel_penalty_of, multiplier, penalty}
use Rattle.worked_files.specs.Files.{file_of, unit_bytes, units}
use Rattle.worked_files.specs.Cases.{cell_bytes, event_of, empty, fuel_day_events, fuel_day}
use Rattle.subtotal.specs.Subtotal.{subtotal_of, is_fuel_event, subtotal_answer}
use Rattle.subtotal.proofs.AddLaws.{add_to_e}

pub record ThreePlants : Type 0 where
  -- 10 × -1,000 + 100 × 60,000 - 20 × 30: hour 5 is in the P of unit 13 alone
  pub unit_12 : subtotal_answer fuel_day 1 ≡ given 5989400
  -- 10 × 7 - 50 × 1,000: hour 0 is in the P of unit 12 alone
  pub unit_13 : subtotal_answer fuel_day 2 ≡ given (2 ^ 64 - 49930)
  -- 10 × 500 + 300 × 100: its own P is empty, and hour 7 is in none
  pub unit_14 : subtotal_answer fuel_day 3 ≡ given 35000
  pub energy : party_day_e (decode fuel_day) 1 ≡ pos 5974470
  -- the promise, of the party-day by its second event: the parts add to that E
  pub added : party_day_sum (decode fuel_day) 2 (subtotal_of (decode fuel_day)) ≡ pos 5974470
  -- and of its lowest unit: 2 × 5,974,470 twentieths of a cent
  pub penalty_given : fuel_penalty_answer (word 64 (pos 5974470)) 0 2 ≡ given 597447
  -- a withheld event; no such event
  pub other_kind : subtotal_answer fuel_day 0 ≡ refused 10
  pub no_event : subtotal_answer fuel_day 4 ≡ refused 10
  pub last_number : subtotal_answer fuel_day (2 ^ 64 - 1) ≡ refused 10
  -- the case's number before 10: an area of 2, and a bid without its reference
  pub bad_unit_is : subtotal_answer (file_of (unit_bytes 12 1 2 5000) [] [] []) 0 ≡ refused 6
  pub no_reference : subtotal_answer (file_of units [] [] (event_of 695 4 0 12 0 0 0 0 0 empty)) 0 ≡ refused 14

pub three_plants : ThreePlants
unfolding cell_bytes event_of headed file_in file_of unit_bytes units sum_to any_to all_to last_to bit_of value_at bytes_of positive_part negative_part within cents fuel_day_counts fuel_charge fuel_penalty first_widths widths_of format_in offset_of length_of section_of record_at units_in references_in violation_in past_in cells_from cells_in events_in amounts_in decode case_in is_unit is_listed place_of unit_of group_of is_reference has_reference correct_references length_fine version_fine sections_fine pairs_fine size_fine sizes_fine record_numbers_fine unit_numbers_fine reference_numbers_fine event_numbers_fine numbers_fine rises unit_fields_fine unit_spare_fine reference_spare_fine entry_spare_fine unit_fine units_fine reference_fields_fine reference_key reference_fine references_fine correction_fine violation_fine entry_fine past_fine mask_fine quantities_fine fields_fine reference_in_range bid_in_range cell_fine hour_fine event_fine events_fine month_length month_start month_from month_of day_of_month day_within window_start period_of days_fine periods_fine event_key order_fine event_listed events_listed within_capability amount_fine amounts_fine reads_correct reference_found references_found rows_fine refusal together sum_together fuel_flag energy_part gain loss tcc_change lowest_unit counts_fuel past_fuel fuel_stands fuel_multiplier_after fuel_penalty_under prior_fuel fuel_multiplier fuel_penalty_of multiplier penalty join_to signed sum_ℤ_to word party_day_sum party_day_e fuel_day_events fuel_day subtotal_of is_fuel_event subtotal_answer
three_plants =
    record {
      unit_12 = refl;
      unit_13 = refl;
      unit_14 = refl;
      energy = refl;
      added = (add_to_e fuel_day [] 512 2 refl (lit< tt) refl).sum;
      penalty_given = (add_to_e fuel_day [] 512 1 refl (lit< tt) refl).penalty_of refl;
      other_kind = refl;
      no_event = refl;
      last_number = refl;
      bad_unit_is = refl;
      no_reference = refl;
    }
