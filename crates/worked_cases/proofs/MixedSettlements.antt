-- Settlements of mixed kinds by computation, from the bytes of the file to the bytes of the rows.
use mathlib.Core.List.{[], ◌∷◌, ◌++◌}
use mathlib.Core.Path.{◌≡◌, refl}
use lib.ListN.{replicate}
use Rattle.binary.specs.Bounded.{sum_to, count_to, any_to, all_to, first_to, last_to, mask_to, bit_of}
use Rattle.binary.specs.Bytes.{value_at, bytes_of}
use Rattle.binary.specs.Word.{positive_part, negative_part, within}
use Rattle.binary.specs.Lists.{join_to}
use Rattle.calendar.specs.Months.{month_length, month_start, month_from, month_of, day_of_month}
use Rattle.calendar.specs.Periods.{day_within, window_start, period_of}
use Rattle.tariff.specs.Ranges.{reference_in_range, bid_in_range}
use Rattle.tariff.specs.Threshold.{threshold_of}
use Rattle.tariff.specs.ConductTests.{increase, lower_test, constrained_test, percent_test, time_test, maximum_test, bid_test, unit_limit, group_limit, withheld_test, dispatch_test}
use Rattle.tariff.specs.SanctionRules.{cents, period_counts, ladder, withheld_penalty, dispatch_penalty, fuel_day_counts, fuel_charge, fuel_penalty}
use Rattle.tariff.specs.DefaultBidRules.{between, spanned, at_most, lesser, greater, default_bid, restores, corrected_bid, corrected_in_force, excess, hour_make_up, make_up}
use Rattle.casefile.specs.Layout.{first_widths, widths_of}
use Rattle.casefile.specs.Decode.{format_in, case_in, offset_of, length_of, section_of, record_at, units_in, references_in, violation_in, past_in, cells_from, cells_in, events_in, amounts_in, decode, unit_spare_fine, reference_spare_fine, entry_spare_fine}
use Rattle.casefile.specs.Lookup.{reference_key, is_unit, is_listed, place_of, unit_of, group_of, is_reference, has_reference, level_of, correct_references, correct_in, reference_of, reads_correct, together}
use Rattle.casefile.specs.File.{headed, file_in}
use Rattle.limits.specs.Refusal.{length_fine, version_fine, sections_fine, pairs_fine, size_fine, sizes_fine, record_numbers_fine, unit_numbers_fine, reference_numbers_fine, event_numbers_fine, numbers_fine, rises, unit_fields_fine, unit_fine, units_fine, reference_fields_fine, reference_fine, references_fine, correction_fine, violation_fine, entry_fine, past_fine, mask_fine, quantities_fine, fields_fine, cell_fine, hour_fine, event_fine, events_fine, days_fine, periods_fine, event_key, order_fine, event_listed, events_listed, within_capability, amount_fine, amounts_fine, reference_found, references_found, rows_fine, refusal}
use Rattle.conduct.specs.Flags.{tight, sum_together, time_bid, time_total, bid_flag, group_capability, group_sum, withheld_flag, dispatch_flag, fuel_flag, flagged, flag_mask}
use Rattle.sanctions.specs.Penalties.{flagged_with_impact, is_instance, counts_here, counts_past, instances, n3, n2, withheld_multiplier, withheld_amount, withheld_penalty_of, dispatch_multiplier, dispatch_revenue, dispatch_penalty_of, energy_part, gain, loss, tcc_change, lowest_unit, counts_fuel, past_fuel, fuel_stands, fuel_multiplier_after, fuel_penalty_under, prior_fuel, fuel_multiplier, fuel_penalty_of, multiplier, penalty, total_penalty}
use Rattle.default_bids.specs.Mitigation.{hit, mitigated, mitigated_mask, correct_of, bid_in_force, make_up_tenths, make_up_of, total_make_up}
use Rattle.settlement.specs.Row.{bid_bytes, row_of, rows_of}
use Rattle.settlement.specs.Settled.{accepted, answer_of, rows_after, settled}
use Rattle.worked_files.specs.Files.{file_of, unit_bytes, reference_bytes, entry_bytes, units}
use Rattle.worked_files.specs.Cases.{tight_unit, cell_bytes, event_of, row_bytes, area_units, past_instances, sanctioned_events, sanctioned, sanctioned_rows, mixed_references, mixed_events, mixed, mixed_rows, two_days_events, two_days, two_days_rows, group_references, group_events, group, group_rows, window_past, window_references, window_correction, window_events, windows, window_rows}

-- the byte beyond the last row stays
pub record MixedExamples : Type 0 where
  pub sanctioned_case : settled sanctioned [] (replicate 769 9)
      ≡ record {
        answer = record { number = 0; row_count = 6; penalties = 1826809; make_ups = 0 };
        rows = sanctioned_rows ++ (9 ∷ []);
      }
  pub mixed_case : settled mixed [] (replicate 641 9)
      ≡ record {
        answer = record { number = 0; row_count = 5; penalties = 150000; make_ups = 0 };
        rows = mixed_rows ++ (9 ∷ []);
      }
  pub two_days_case : settled two_days [] (replicate 641 9)
      ≡ record {
        answer = record { number = 0; row_count = 5; penalties = 1902185; make_ups = 0 };
        rows = two_days_rows ++ (9 ∷ []);
      }
  pub group_case : settled group [] (replicate 1025 9)
      ≡ record {
        answer = record { number = 0; row_count = 8; penalties = 150500; make_ups = 0 };
        rows = group_rows ++ (9 ∷ []);
      }
  pub windows_case : settled windows window_correction (replicate 769 9)
      ≡ record {
        answer = record { number = 0; row_count = 6; penalties = 2250201; make_ups = 1 };
        rows = window_rows ++ (9 ∷ []);
      }

pub mixed_examples : MixedExamples
unfolding group_references group_events group group_rows window_past window_references window_correction window_events windows window_rows mixed_references mixed_events mixed mixed_rows two_days_events two_days two_days_rows tight_unit area_units past_instances sanctioned_events sanctioned sanctioned_rows cell_bytes event_of row_bytes headed file_in file_of unit_bytes reference_bytes entry_bytes units sum_to count_to any_to all_to first_to last_to mask_to bit_of value_at bytes_of positive_part negative_part within threshold_of increase lower_test constrained_test percent_test time_test maximum_test bid_test unit_limit group_limit withheld_test dispatch_test cents period_counts ladder withheld_penalty dispatch_penalty fuel_day_counts fuel_charge fuel_penalty between spanned at_most lesser greater default_bid restores corrected_bid corrected_in_force excess hour_make_up make_up first_widths widths_of format_in offset_of length_of section_of record_at units_in references_in violation_in past_in cells_from cells_in events_in amounts_in decode case_in is_unit is_listed place_of unit_of group_of is_reference has_reference level_of correct_references correct_in reference_of length_fine version_fine sections_fine pairs_fine size_fine sizes_fine record_numbers_fine unit_numbers_fine reference_numbers_fine event_numbers_fine numbers_fine rises unit_fields_fine unit_spare_fine reference_spare_fine entry_spare_fine unit_fine units_fine reference_fields_fine reference_key reference_fine references_fine correction_fine violation_fine entry_fine past_fine mask_fine quantities_fine fields_fine reference_in_range bid_in_range cell_fine hour_fine event_fine events_fine month_length month_start month_from month_of day_of_month day_within window_start period_of days_fine periods_fine event_key order_fine event_listed events_listed within_capability amount_fine amounts_fine reads_correct reference_found references_found rows_fine refusal tight together sum_together time_bid time_total bid_flag group_capability group_sum withheld_flag dispatch_flag fuel_flag flagged flag_mask flagged_with_impact is_instance counts_here counts_past instances n3 n2 withheld_multiplier withheld_amount withheld_penalty_of dispatch_multiplier dispatch_revenue dispatch_penalty_of energy_part gain loss tcc_change lowest_unit counts_fuel past_fuel fuel_stands fuel_multiplier_after fuel_penalty_under prior_fuel fuel_multiplier fuel_penalty_of multiplier penalty total_penalty hit mitigated mitigated_mask correct_of bid_in_force make_up_tenths make_up_of total_make_up join_to bid_bytes row_of rows_of accepted answer_of rows_after settled
mixed_examples = record { sanctioned_case = refl; mixed_case = refl; two_days_case = refl; group_case = refl; windows_case = refl }
