-- Demand 3 at work on a version 2 file: units 70,000 and 999,999, one withheld event, 0.1 MW more and a past violation.
use Prim.Native.Nat.{ℕ, zero, suc}
use mathlib.Core.List.{List, [], ◌∷◌, ◌++◌}
use mathlib.Core.Path.{◌≡◌, refl}
use native.Mathlib.Omega.{arith}
use lib.Dec.{lit<, lit≤}
use lib.ListN.{replicate}
use Rattle.binary.specs.Bounded.{sum_to, count_to, any_to, all_to, first_to, last_to, mask_to, bit_of}
use Rattle.binary.specs.Bytes.{value_at, bytes_of}
use Rattle.binary.specs.Word.{positive_part, negative_part, within}
use Rattle.binary.specs.Lists.{join_to}
use Rattle.calendar.specs.Months.{month_length, month_start, month_from, month_of, day_of_month}
use Rattle.calendar.specs.Periods.{day_within, window_start, period_of}
use Rattle.tariff.specs.Ranges.{reference_in_range, bid_in_range}
use Rattle.tariff.specs.Threshold.{threshold_of}
use Rattle.tariff.specs.ConductTests.{increase, lower_test, constrained_test, percent_test, time_test, maximum_test, bid_test, unit_limit, group_limit, withheld_test, dispatch_test}
use Rattle.tariff.specs.SanctionRules.{cents, period_counts, ladder, withheld_penalty, dispatch_penalty, fuel_day_counts, fuel_charge, fuel_penalty}
use Rattle.tariff.specs.DefaultBidRules.{between, spanned, span_mask, at_most, lesser, greater, default_bid, restores, corrected_bid, corrected_in_force, excess, hour_make_up, make_up}
use Rattle.casefile.specs.Layout.{second_version, first_widths, second_widths, widths_of}
use Rattle.casefile.specs.Decode.{format_in, case_in, offset_of, length_of, section_of, record_at, units_in, references_in, violation_in, past_in, cells_from, cells_in, events_in, amounts_in, decode, old_number, unit_spare_fine, reference_spare_fine, entry_spare_fine}
use Rattle.casefile.specs.Lookup.{reference_key, is_unit, is_listed, place_of, unit_of, group_of, is_reference, has_reference, level_of, correct_references, correct_in, reference_of, reads_correct, together}
use Rattle.casefile.specs.File.{headed, file_in}
use Rattle.limits.specs.Refusal.{length_fine, version_fine, sections_fine, pairs_fine, size_fine, sizes_fine, number_fine, record_numbers_fine, unit_numbers_fine, reference_numbers_fine, event_numbers_fine, numbers_fine, rises, unit_fields_fine, unit_fine, units_fine, reference_fields_fine, reference_fine, references_fine, correction_fine, violation_fine, entry_fine, past_fine, mask_fine, quantities_fine, fields_fine, cell_fine, hour_fine, event_fine, events_fine, days_fine, periods_fine, event_key, order_fine, event_listed, events_listed, within_capability, amount_fine, amounts_fine, reference_found, references_found, rows_fine, refusal}
use Rattle.conduct.specs.Flags.{tight, sum_together, time_bid, time_total, bid_flag, group_capability, group_sum, withheld_flag, dispatch_flag, fuel_flag, flagged, flag_mask}
use Rattle.sanctions.specs.Penalties.{flagged_with_impact, is_instance, counts_here, counts_past, instances, n3, n2, withheld_multiplier, withheld_amount, withheld_penalty_of, dispatch_multiplier, dispatch_revenue, dispatch_penalty_of, energy_part, gain, loss, tcc_change, lowest_unit, counts_fuel, past_fuel, fuel_stands, fuel_multiplier_after, fuel_penalty_under, prior_fuel, fuel_multiplier, fuel_penalty_of, multiplier, penalty, total_penalty}
use Rattle.default_bids.specs.Mitigation.{hit, mitigated, mitigated_mask, correct_of, bid_in_force, make_up_tenths, make_up_of, total_make_up}
use Rattle.settlement.specs.Row.{bid_bytes, row_of, rows_of}
use Rattle.settlement.specs.Settled.{accepted, answer_of, settlement_of, answer_of_settlement, rows_after, settled}
use Rattle.worked_files.specs.Files.{unit_bytes, entry_bytes, event_bytes, withheld}
use Rattle.worked_files.specs.Cases.{row_bytes, no_bids}
use Rattle.worse_conduct.specs.Changes.{Change, cell, entry, TakesAll, cell_place, cell_written, entry_place, entry_put, longer_past, later_events, header_moved, apply, apply_all, more_withheld, lower_bid, moved_bid, worse_bid, worse_amount}
use Rattle.worse_conduct.specs.Promise.{EnergyNotNegative, NoSmaller}
use Rattle.demands.proofs.Demands.{demand_3}
use Rattle.worked_changes.proofs.WorseCases.{run}

unfoldable pub wide_units : List ℕ
wide_units = unit_bytes 0 1 0 5000 ++ bytes_of 4 70000 ++ (unit_bytes 0 1 0 15000 ++ bytes_of 4 999999)

-- so many tenths of MW withheld by unit 70,000 in hour 0
unfoldable pub case_of : (past : List ℕ) (amount : ℕ) → List ℕ
case_of past amount = file_in second_version wide_units [] past (withheld 0 0 amount ++ bytes_of 4 70000)

unfoldable pub before : List ℕ
before = case_of [] 500

unfoldable pub changes : List Change
changes = cell 0 0 501 ∷ entry 0 (entry_bytes 1 1 0 44 7980) ∷ []

unfoldable pub after : List ℕ
after = case_of (entry_bytes 1 1 0 44 7980) 501

changed : apply_all changes before ≡ after
unfolding wide_units case_of before after changes event_bytes withheld second_widths number_fine old_number headed file_in unit_bytes entry_bytes join_to value_at bytes_of first_widths widths_of format_in offset_of length_of section_of record_at units_in references_in violation_in past_in cells_from cells_in events_in amounts_in decode case_in cell_place cell_written entry_place entry_put longer_past later_events header_moved apply apply_all more_withheld lower_bid moved_bid worse_bid worse_amount
changed = refl

accepted_before : refusal before [] 128 ≡ 0
unfolding wide_units case_of before after changes event_bytes withheld second_widths number_fine old_number headed file_in unit_bytes entry_bytes sum_to count_to any_to all_to first_to last_to mask_to bit_of value_at bytes_of positive_part negative_part within threshold_of increase lower_test constrained_test percent_test time_test maximum_test bid_test unit_limit group_limit withheld_test dispatch_test cents period_counts ladder withheld_penalty dispatch_penalty fuel_day_counts fuel_charge fuel_penalty between spanned span_mask at_most lesser greater default_bid restores corrected_bid corrected_in_force excess hour_make_up make_up first_widths widths_of format_in offset_of length_of section_of record_at units_in references_in violation_in past_in cells_from cells_in events_in amounts_in decode case_in is_unit is_listed place_of unit_of group_of is_reference has_reference level_of correct_references correct_in reference_of length_fine version_fine sections_fine pairs_fine size_fine sizes_fine record_numbers_fine unit_numbers_fine reference_numbers_fine event_numbers_fine numbers_fine rises unit_fields_fine unit_spare_fine reference_spare_fine entry_spare_fine unit_fine units_fine reference_fields_fine reference_key reference_fine references_fine correction_fine violation_fine entry_fine past_fine mask_fine quantities_fine fields_fine reference_in_range bid_in_range cell_fine hour_fine event_fine events_fine month_length month_start month_from month_of day_of_month day_within window_start period_of days_fine periods_fine event_key order_fine event_listed events_listed within_capability amount_fine amounts_fine reads_correct reference_found references_found rows_fine refusal tight together sum_together time_bid time_total bid_flag group_capability group_sum withheld_flag dispatch_flag fuel_flag flagged flag_mask flagged_with_impact is_instance counts_here counts_past instances n3 n2 withheld_multiplier withheld_amount withheld_penalty_of dispatch_multiplier dispatch_revenue dispatch_penalty_of energy_part gain loss tcc_change lowest_unit counts_fuel past_fuel fuel_stands fuel_multiplier_after fuel_penalty_under prior_fuel fuel_multiplier fuel_penalty_of multiplier penalty total_penalty hit mitigated mitigated_mask correct_of bid_in_force make_up_tenths make_up_of total_make_up join_to bid_bytes row_of rows_of accepted answer_of rows_after settled
accepted_before = refl

accepted_after : refusal after [] 200 ≡ 0
unfolding wide_units case_of before after changes event_bytes withheld second_widths number_fine old_number headed file_in unit_bytes entry_bytes sum_to count_to any_to all_to first_to last_to mask_to bit_of value_at bytes_of positive_part negative_part within threshold_of increase lower_test constrained_test percent_test time_test maximum_test bid_test unit_limit group_limit withheld_test dispatch_test cents period_counts ladder withheld_penalty dispatch_penalty fuel_day_counts fuel_charge fuel_penalty between spanned span_mask at_most lesser greater default_bid restores corrected_bid corrected_in_force excess hour_make_up make_up first_widths widths_of format_in offset_of length_of section_of record_at units_in references_in violation_in past_in cells_from cells_in events_in amounts_in decode case_in is_unit is_listed place_of unit_of group_of is_reference has_reference level_of correct_references correct_in reference_of length_fine version_fine sections_fine pairs_fine size_fine sizes_fine record_numbers_fine unit_numbers_fine reference_numbers_fine event_numbers_fine numbers_fine rises unit_fields_fine unit_spare_fine reference_spare_fine entry_spare_fine unit_fine units_fine reference_fields_fine reference_key reference_fine references_fine correction_fine violation_fine entry_fine past_fine mask_fine quantities_fine fields_fine reference_in_range bid_in_range cell_fine hour_fine event_fine events_fine month_length month_start month_from month_of day_of_month day_within window_start period_of days_fine periods_fine event_key order_fine event_listed events_listed within_capability amount_fine amounts_fine reads_correct reference_found references_found rows_fine refusal tight together sum_together time_bid time_total bid_flag group_capability group_sum withheld_flag dispatch_flag fuel_flag flagged flag_mask flagged_with_impact is_instance counts_here counts_past instances n3 n2 withheld_multiplier withheld_amount withheld_penalty_of dispatch_multiplier dispatch_revenue dispatch_penalty_of energy_part gain loss tcc_change lowest_unit counts_fuel past_fuel fuel_stands fuel_multiplier_after fuel_penalty_under prior_fuel fuel_multiplier fuel_penalty_of multiplier penalty total_penalty hit mitigated mitigated_mask correct_of bid_in_force make_up_tenths make_up_of total_make_up join_to bid_bytes row_of rows_of accepted answer_of rows_after settled
accepted_after = refl

taken : TakesAll before changes
unfolding wide_units case_of before after changes event_bytes withheld second_widths number_fine old_number headed file_in unit_bytes entry_bytes join_to positive_part negative_part value_at bytes_of first_widths widths_of format_in offset_of length_of section_of record_at units_in references_in violation_in past_in cells_from cells_in events_in amounts_in decode case_in cell_place cell_written entry_place entry_put longer_past later_events header_moved apply apply_all more_withheld lower_bid moved_bid worse_bid worse_amount
taken = (record { event = lit< tt; hour = lit< tt; word = lit< tt; worse = refl }, (record { place = lit≤ tt; size = refl }, tt))

-- it has no fuel event
energy : EnergyNotNegative (decode before)
unfolding wide_units case_of before after changes event_bytes withheld second_widths number_fine old_number headed file_in unit_bytes entry_bytes join_to value_at bytes_of first_widths widths_of format_in offset_of length_of section_of record_at units_in references_in violation_in past_in cells_from cells_in events_in amounts_in decode case_in cell_place cell_written entry_place entry_put longer_past later_events header_moved apply apply_all more_withheld lower_bid moved_bid worse_bid worse_amount
energy zero l k = absurd (omega arith)
energy (suc i) l k = absurd (omega arith)

pub worked : NoSmaller (format_in before)
    (record { answer = answer_of_settlement (settlement_of (answer_of before [] 128)); rows = rows_after before [] (replicate 128 0) })
    (record { answer = answer_of_settlement (settlement_of (answer_of after [] 200)); rows = rows_after after [] (replicate 200 255) })
worked =
    demand_3 before after [] (replicate 128 0) (replicate 200 255) _ _ _ _ (run before (replicate 128 0)) (run after (replicate 200 255))
    changes changed taken accepted_before accepted_after energy

-- and what it costs
pub cost : (settled before [] (replicate 128 0) ≡ record { answer = record { number = 0; row_count = 1; penalties = 0; make_ups = 0 }; rows = row_bytes 0 0 0 0 0 0 0 no_bids })
    × (settled after [] (replicate 128 0) ≡ record { answer = record { number = 0; row_count = 1; penalties = 200400; make_ups = 0 }; rows = row_bytes 1 0 200400 0 2 2 2 no_bids })
unfolding wide_units case_of before after changes event_bytes withheld second_widths number_fine old_number headed file_in unit_bytes entry_bytes row_bytes sum_to count_to any_to all_to first_to last_to mask_to bit_of value_at bytes_of positive_part negative_part within threshold_of increase lower_test constrained_test percent_test time_test maximum_test bid_test unit_limit group_limit withheld_test dispatch_test cents period_counts ladder withheld_penalty dispatch_penalty fuel_day_counts fuel_charge fuel_penalty between spanned span_mask at_most lesser greater default_bid restores corrected_bid corrected_in_force excess hour_make_up make_up first_widths widths_of format_in offset_of length_of section_of record_at units_in references_in violation_in past_in cells_from cells_in events_in amounts_in decode case_in is_unit is_listed place_of unit_of group_of is_reference has_reference level_of correct_references correct_in reference_of length_fine version_fine sections_fine pairs_fine size_fine sizes_fine record_numbers_fine unit_numbers_fine reference_numbers_fine event_numbers_fine numbers_fine rises unit_fields_fine unit_spare_fine reference_spare_fine entry_spare_fine unit_fine units_fine reference_fields_fine reference_key reference_fine references_fine correction_fine violation_fine entry_fine past_fine mask_fine quantities_fine fields_fine reference_in_range bid_in_range cell_fine hour_fine event_fine events_fine month_length month_start month_from month_of day_of_month day_within window_start period_of days_fine periods_fine event_key order_fine event_listed events_listed within_capability amount_fine amounts_fine reads_correct reference_found references_found rows_fine refusal tight together sum_together time_bid time_total bid_flag group_capability group_sum withheld_flag dispatch_flag fuel_flag flagged flag_mask flagged_with_impact is_instance counts_here counts_past instances n3 n2 withheld_multiplier withheld_amount withheld_penalty_of dispatch_multiplier dispatch_revenue dispatch_penalty_of energy_part gain loss tcc_change lowest_unit counts_fuel past_fuel fuel_stands fuel_multiplier_after fuel_penalty_under prior_fuel fuel_multiplier fuel_penalty_of multiplier penalty total_penalty hit mitigated mitigated_mask correct_of bid_in_force make_up_tenths make_up_of total_make_up join_to bid_bytes row_of rows_of accepted answer_of rows_after settled
cost = (refl, refl)
