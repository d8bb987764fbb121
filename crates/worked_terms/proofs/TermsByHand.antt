-- The terms of penalties and make-ups by computation, from the bytes of the file, and the lists of what was counted.
use Prim.Native.Nat.{ℕ}
use mathlib.Core.Bool.{false}
use mathlib.Core.List.{List, [], ◌∷◌, ◌++◌}
use mathlib.Core.Path.{◌≡◌, refl}
use lib.Dec.{lit<}
use lib.ListN.{replicate}
use Rattle.binary.specs.Bounded.{sum_to, count_to, any_to, all_to, first_to, last_to, mask_to, bit_of}
use Rattle.binary.specs.Bytes.{value_at, bytes_of}
use Rattle.binary.specs.Word.{positive_part, negative_part, within}
use Rattle.binary.specs.Lists.{join_to, list_to}
use Rattle.calendar.specs.Months.{month_length, month_start, month_from, month_of, day_of_month}
use Rattle.calendar.specs.Periods.{day_within, window_start, period_of}
use Rattle.tariff.specs.Ranges.{reference_in_range, bid_in_range}
use Rattle.tariff.specs.Threshold.{threshold_of}
use Rattle.tariff.specs.ConductTests.{increase, lower_test, constrained_test, percent_test, time_test, maximum_test, bid_test, unit_limit, group_limit, withheld_test, dispatch_test}
use Rattle.tariff.specs.SanctionRules.{cents, period_counts, ladder, withheld_penalty, dispatch_penalty, fuel_day_counts, fuel_charge, fuel_penalty}
use Rattle.tariff.specs.DefaultBidRules.{between, spanned, at_most, lesser, greater, default_bid, restores, excess, hour_make_up, make_up}
use Rattle.calls.specs.Answers.{given}
use Rattle.penalty_calls.specs.SanctionCalls.{withheld_penalty_answer, dispatch_penalty_answer, fuel_penalty_answer}
use Rattle.casefile.specs.Layout.{first_widths, widths_of}
use Rattle.casefile.specs.Decode.{format_in, case_in, offset_of, length_of, section_of, record_at, units_in, references_in, violation_in, past_in, cells_from, cells_in, events_in, amounts_in, decode, unit_spare_fine, reference_spare_fine, entry_spare_fine}
use Rattle.casefile.specs.Lookup.{reference_key, is_unit, is_listed, place_of, unit_of, group_of, is_reference, has_reference, level_of, correct_references, correct_in, reference_of, reads_correct, bid_level, together}
use Rattle.casefile.specs.File.{headed, file_in}
use Rattle.limits.specs.Refusal.{length_fine, version_fine, sections_fine, pairs_fine, size_fine, sizes_fine, record_numbers_fine, unit_numbers_fine, reference_numbers_fine, event_numbers_fine, numbers_fine, rises, unit_fields_fine, unit_fine, units_fine, reference_fields_fine, reference_fine, references_fine, correction_fine, violation_fine, entry_fine, past_fine, mask_fine, quantities_fine, fields_fine, cell_fine, hour_fine, event_fine, events_fine, days_fine, periods_fine, event_key, order_fine, event_listed, events_listed, within_capability, amount_fine, amounts_fine, reference_found, references_found, rows_fine, refusal}
use Rattle.conduct.specs.Flags.{tight, sum_together, time_bid, time_total, bid_flag, group_capability, group_sum, withheld_flag, dispatch_flag, fuel_flag, flagged}
use Rattle.sanctions.specs.Penalties.{flagged_with_impact, is_instance, counts_here, counts_past, instances, n3, n2, withheld_multiplier, withheld_amount, withheld_penalty_of, dispatch_multiplier, dispatch_revenue, dispatch_penalty_of, energy_part, gain, loss, tcc_change, lowest_unit, counts_fuel, past_fuel, fuel_stands, fuel_multiplier_after, fuel_penalty_under, prior_fuel, fuel_multiplier, fuel_penalty_of, multiplier, penalty}
use Rattle.default_bids.specs.Mitigation.{hit, mitigated, mitigated_mask, correct_of, make_up_tenths, make_up_of, bid_in_force}
use Rattle.penalty_terms.specs.PenaltyWorking.{bearer, charge_of, hour_term, hour_loss, penalty_working_at, refused_penalty, penalty_working_of}
use Rattle.penalty_terms.specs.declared.penalty_working.PenaltyWorking.{PenaltyWorking}
use Rattle.penalty_terms.specs.ByCalls.{flagged_amount, flagged_revenue, signed_word}
use Rattle.penalty_terms.proofs.CallLaws.{by_calls}
use Rattle.counted_instances.specs.CountedInstances.{counted_here, counted_past, byte_of, list_bytes, counted_length, counted_byte, instances_answer, instances_out, bits_from}
use Rattle.counted_instances.proofs.CountLaws.{counts_agree}
use Rattle.make_up_terms.specs.MakeUpWorking.{correct_read, restored, energy_bid, hour_make_up_tenths, make_up_working_at, refused_make_up, make_up_working_of}
use Rattle.make_up_terms.proofs.ByTermsLaws.{by_terms}
use Rattle.worked_files.specs.Files.{file_of, unit_bytes, reference_bytes, entry_bytes, units}
use Rattle.worked_files.specs.Cases.{tight_unit, cell_bytes, event_of, bid_references, bid_events, bids, minimum_generation, area_units, past_instances, sanctioned_events, sanctioned}

-- a working of kind 1 or 2
abbrev terms : (kind multiplier n3 n2 row amount revenue penalty : ℕ) (hours : List ℕ) → PenaltyWorking
terms kind multiplier n3 n2 row amount revenue penalty hours =
    record {
      number = 0;
      kind = kind;
      multiplier = multiplier;
      below = false;
      n3 = n3;
      n2 = n2;
      row = row;
      amount = amount;
      revenue = revenue;
      e_positive = 0;
      e_negative = 0;
      t = 0;
      x = 0;
      penalty = penalty;
      hours = hours;
      losses = replicate 24 0;
    }

pub record Workings : Type 0 where
  -- 501 × 4,005 and 400 × 1,000, the fourth instance in three periods and the third in two: twice 2,406,505 tenths of a cent
  pub withheld : penalty_working_of sanctioned [] 0 ≡ terms 1 4 4 3 0 2406505 0 481301 (2006505 ∷ 400000 ∷ replicate 22 0)
  -- 3 halves of 1,001
  pub dispatch : penalty_working_of sanctioned [] 2 ≡ terms 2 3 0 0 2 0 1001 1502 (0 ∷ 0 ∷ 0 ∷ 1001 ∷ replicate 20 0)
  -- unit 13's event of the party-day, whose penalty stands on unit 12's row: E is 10 × -1,000 + 6,000,000 - 50,000 + 70
  pub fuel : penalty_working_of sanctioned [] 4
      ≡ record {
        number = 0;
        kind = 3;
        multiplier = 2;
        below = false;
        n3 = 0;
        n2 = 0;
        row = 3;
        amount = 0;
        revenue = 0;
        e_positive = 5940070;
        e_negative = 0;
        t = 0;
        x = 11880140;
        penalty = 594007;
        hours = 0 ∷ 0 ∷ 0 ∷ 0 ∷ 0 ∷ 70 ∷ replicate 18 0;
        losses = 50000 ∷ replicate 23 0;
      }
  pub no_event : penalty_working_of sanctioned [] 6 ≡ refused_penalty 10
  -- event 1 counts event 0 and the past entries 0, 1 and 2; over two periods not entry 0
  pub counted : list_to counted_length (counted_byte (decode sanctioned) 1)
      ≡ (1 ∷ replicate 24 0) ++ ((7 ∷ replicate 31 0) ++ ((1 ∷ replicate 24 0) ++ (6 ∷ replicate 31 0)))
  -- 1,000 × (the lesser of 2,877 and 2,500, less 1,000)
  pub make_up_holds : make_up_working_of bids (reference_bytes 20 0 2500) 0
      ≡ record {
        number = 0;
        reference = 2000;
        correct = 2500;
        mitigated = 4;
        restored = 0;
        tenths = 1500000;
        make_up = 150000;
        hours = 0 ∷ 0 ∷ 1500000 ∷ replicate 21 0;
      }
  -- hours 18 to 21 are mitigated, and all pass with 6,000
  pub restored_span : make_up_working_of minimum_generation (reference_bytes 12 1 6000) 0
      ≡ record {
        number = 0;
        reference = 5000;
        correct = 6000;
        mitigated = 3932160;
        restored = 3932160;
        tenths = 0;
        make_up = 0;
        hours = replicate 24 0;
      }

pub workings : Workings
unfolding tight_unit bid_references bid_events bids minimum_generation cell_bytes event_of headed file_in file_of unit_bytes reference_bytes entry_bytes units sum_to count_to any_to all_to first_to last_to mask_to bit_of value_at bytes_of positive_part negative_part within threshold_of increase lower_test constrained_test percent_test time_test maximum_test bid_test unit_limit group_limit withheld_test dispatch_test cents period_counts ladder withheld_penalty dispatch_penalty fuel_day_counts fuel_charge fuel_penalty between spanned at_most lesser greater default_bid restores excess hour_make_up make_up first_widths widths_of format_in offset_of length_of section_of record_at units_in references_in violation_in past_in cells_from cells_in events_in amounts_in decode case_in is_unit is_listed place_of unit_of group_of is_reference has_reference level_of correct_references correct_in reference_of length_fine version_fine sections_fine pairs_fine size_fine sizes_fine record_numbers_fine unit_numbers_fine reference_numbers_fine event_numbers_fine numbers_fine rises unit_fields_fine unit_spare_fine reference_spare_fine entry_spare_fine unit_fine units_fine reference_fields_fine reference_key reference_fine references_fine correction_fine violation_fine entry_fine past_fine mask_fine quantities_fine fields_fine reference_in_range bid_in_range cell_fine hour_fine event_fine events_fine month_length month_start month_from month_of day_of_month day_within window_start period_of days_fine periods_fine event_key order_fine event_listed events_listed within_capability amount_fine amounts_fine reads_correct reference_found references_found rows_fine refusal tight together sum_together time_bid time_total bid_flag group_capability group_sum withheld_flag dispatch_flag fuel_flag flagged flagged_with_impact is_instance counts_here counts_past instances n3 n2 withheld_multiplier withheld_amount withheld_penalty_of dispatch_multiplier dispatch_revenue dispatch_penalty_of energy_part gain loss tcc_change lowest_unit counts_fuel past_fuel fuel_stands fuel_multiplier_after fuel_penalty_under prior_fuel fuel_multiplier fuel_penalty_of multiplier penalty hit mitigated mitigated_mask correct_of make_up_tenths make_up_of join_to area_units past_instances sanctioned_events sanctioned list_to bid_level bearer charge_of hour_term hour_loss penalty_working_at refused_penalty penalty_working_of counted_here counted_past byte_of counted_byte correct_read restored energy_bid hour_make_up_tenths make_up_working_at refused_make_up make_up_working_of
workings =
    record {
      withheld = refl;
      dispatch = refl;
      fuel = refl;
      no_event = refl;
      counted = refl;
      make_up_holds = refl;
      restored_span = refl;
    }

-- the smaller call, given the party-day's E, T and M, gives its penalty
pub fuel_by_call : fuel_penalty_answer (signed_word 5940070 0) 0 2 ≡ given 594007
unfolding tight_unit bid_references bid_events bids minimum_generation cell_bytes event_of headed file_in file_of unit_bytes reference_bytes entry_bytes units sum_to count_to any_to all_to first_to last_to mask_to bit_of value_at bytes_of positive_part negative_part within threshold_of increase lower_test constrained_test percent_test time_test maximum_test bid_test unit_limit group_limit withheld_test dispatch_test cents period_counts ladder withheld_penalty dispatch_penalty fuel_day_counts fuel_charge fuel_penalty between spanned at_most lesser greater default_bid restores excess hour_make_up make_up first_widths widths_of format_in offset_of length_of section_of record_at units_in references_in violation_in past_in cells_from cells_in events_in amounts_in decode case_in is_unit is_listed place_of unit_of group_of is_reference has_reference level_of correct_references correct_in reference_of length_fine version_fine sections_fine pairs_fine size_fine sizes_fine record_numbers_fine unit_numbers_fine reference_numbers_fine event_numbers_fine numbers_fine rises unit_fields_fine unit_spare_fine reference_spare_fine entry_spare_fine unit_fine units_fine reference_fields_fine reference_key reference_fine references_fine correction_fine violation_fine entry_fine past_fine mask_fine quantities_fine fields_fine reference_in_range bid_in_range cell_fine hour_fine event_fine events_fine month_length month_start month_from month_of day_of_month day_within window_start period_of days_fine periods_fine event_key order_fine event_listed events_listed within_capability amount_fine amounts_fine reads_correct reference_found references_found rows_fine refusal tight together sum_together time_bid time_total bid_flag group_capability group_sum withheld_flag dispatch_flag fuel_flag flagged flagged_with_impact is_instance counts_here counts_past instances n3 n2 withheld_multiplier withheld_amount withheld_penalty_of dispatch_multiplier dispatch_revenue dispatch_penalty_of energy_part gain loss tcc_change lowest_unit counts_fuel past_fuel fuel_stands fuel_multiplier_after fuel_penalty_under prior_fuel fuel_multiplier fuel_penalty_of multiplier penalty hit mitigated mitigated_mask correct_of make_up_tenths make_up_of join_to area_units past_instances sanctioned_events sanctioned list_to bid_level bearer charge_of hour_term hour_loss penalty_working_at refused_penalty penalty_working_of counted_here counted_past byte_of counted_byte correct_read restored energy_bid hour_make_up_tenths make_up_working_at refused_make_up make_up_working_of
fuel_by_call = (by_calls sanctioned [] 4 refl).fuel refl

-- the call of a withheld event, given its hours, and that of a dispatch event
pub withheld_by_call : withheld_penalty_answer 4 (list_to 24 (flagged_amount (decode sanctioned) 0)) (list_to 24 ((decode sanctioned).events.b 0)) ≡ given 481301
unfolding tight_unit bid_references bid_events bids minimum_generation cell_bytes event_of headed file_in file_of unit_bytes reference_bytes entry_bytes units sum_to count_to any_to all_to first_to last_to mask_to bit_of value_at bytes_of positive_part negative_part within threshold_of increase lower_test constrained_test percent_test time_test maximum_test bid_test unit_limit group_limit withheld_test dispatch_test cents period_counts ladder withheld_penalty dispatch_penalty fuel_day_counts fuel_charge fuel_penalty between spanned at_most lesser greater default_bid restores excess hour_make_up make_up first_widths widths_of format_in offset_of length_of section_of record_at units_in references_in violation_in past_in cells_from cells_in events_in amounts_in decode case_in is_unit is_listed place_of unit_of group_of is_reference has_reference level_of correct_references correct_in reference_of length_fine version_fine sections_fine pairs_fine size_fine sizes_fine record_numbers_fine unit_numbers_fine reference_numbers_fine event_numbers_fine numbers_fine rises unit_fields_fine unit_spare_fine reference_spare_fine entry_spare_fine unit_fine units_fine reference_fields_fine reference_key reference_fine references_fine correction_fine violation_fine entry_fine past_fine mask_fine quantities_fine fields_fine reference_in_range bid_in_range cell_fine hour_fine event_fine events_fine month_length month_start month_from month_of day_of_month day_within window_start period_of days_fine periods_fine event_key order_fine event_listed events_listed within_capability amount_fine amounts_fine reads_correct reference_found references_found rows_fine refusal tight together sum_together time_bid time_total bid_flag group_capability group_sum withheld_flag dispatch_flag fuel_flag flagged flagged_with_impact is_instance counts_here counts_past instances n3 n2 withheld_multiplier withheld_amount withheld_penalty_of dispatch_multiplier dispatch_revenue dispatch_penalty_of energy_part gain loss tcc_change lowest_unit counts_fuel past_fuel fuel_stands fuel_multiplier_after fuel_penalty_under prior_fuel fuel_multiplier fuel_penalty_of multiplier penalty hit mitigated mitigated_mask correct_of make_up_tenths make_up_of join_to area_units past_instances sanctioned_events sanctioned list_to bid_level bearer charge_of hour_term hour_loss penalty_working_at refused_penalty penalty_working_of counted_here counted_past byte_of counted_byte correct_read restored energy_bid hour_make_up_tenths make_up_working_at refused_make_up make_up_working_of
withheld_by_call = (by_calls sanctioned [] 0 refl).withheld refl

pub dispatch_by_call : dispatch_penalty_answer (list_to 24 (flagged_revenue (decode sanctioned) 2)) ≡ given 1502
unfolding tight_unit bid_references bid_events bids minimum_generation cell_bytes event_of headed file_in file_of unit_bytes reference_bytes entry_bytes units sum_to count_to any_to all_to first_to last_to mask_to bit_of value_at bytes_of positive_part negative_part within threshold_of increase lower_test constrained_test percent_test time_test maximum_test bid_test unit_limit group_limit withheld_test dispatch_test cents period_counts ladder withheld_penalty dispatch_penalty fuel_day_counts fuel_charge fuel_penalty between spanned at_most lesser greater default_bid restores excess hour_make_up make_up first_widths widths_of format_in offset_of length_of section_of record_at units_in references_in violation_in past_in cells_from cells_in events_in amounts_in decode case_in is_unit is_listed place_of unit_of group_of is_reference has_reference level_of correct_references correct_in reference_of length_fine version_fine sections_fine pairs_fine size_fine sizes_fine record_numbers_fine unit_numbers_fine reference_numbers_fine event_numbers_fine numbers_fine rises unit_fields_fine unit_spare_fine reference_spare_fine entry_spare_fine unit_fine units_fine reference_fields_fine reference_key reference_fine references_fine correction_fine violation_fine entry_fine past_fine mask_fine quantities_fine fields_fine reference_in_range bid_in_range cell_fine hour_fine event_fine events_fine month_length month_start month_from month_of day_of_month day_within window_start period_of days_fine periods_fine event_key order_fine event_listed events_listed within_capability amount_fine amounts_fine reads_correct reference_found references_found rows_fine refusal tight together sum_together time_bid time_total bid_flag group_capability group_sum withheld_flag dispatch_flag fuel_flag flagged flagged_with_impact is_instance counts_here counts_past instances n3 n2 withheld_multiplier withheld_amount withheld_penalty_of dispatch_multiplier dispatch_revenue dispatch_penalty_of energy_part gain loss tcc_change lowest_unit counts_fuel past_fuel fuel_stands fuel_multiplier_after fuel_penalty_under prior_fuel fuel_multiplier fuel_penalty_of multiplier penalty hit mitigated mitigated_mask correct_of make_up_tenths make_up_of join_to area_units past_instances sanctioned_events sanctioned list_to bid_level bearer charge_of hour_term hour_loss penalty_working_at refused_penalty penalty_working_of counted_here counted_past byte_of counted_byte correct_read restored energy_bid hour_make_up_tenths make_up_working_at refused_make_up make_up_working_of
dispatch_by_call = (by_calls sanctioned [] 2 refl).dispatch refl refl

-- event 1 has N3 5 and N2 4
pub counted_bits : (bits_from (instances_out sanctioned [] 1 (replicate 114 9)) 0 ≡ 4) × (bits_from (instances_out sanctioned [] 1 (replicate 114 9)) list_bytes ≡ 3)
unfolding tight_unit bid_references bid_events bids minimum_generation cell_bytes event_of headed file_in file_of unit_bytes reference_bytes entry_bytes units sum_to count_to any_to all_to first_to last_to mask_to bit_of value_at bytes_of positive_part negative_part within threshold_of increase lower_test constrained_test percent_test time_test maximum_test bid_test unit_limit group_limit withheld_test dispatch_test cents period_counts ladder withheld_penalty dispatch_penalty fuel_day_counts fuel_charge fuel_penalty between spanned at_most lesser greater default_bid restores excess hour_make_up make_up first_widths widths_of format_in offset_of length_of section_of record_at units_in references_in violation_in past_in cells_from cells_in events_in amounts_in decode case_in is_unit is_listed place_of unit_of group_of is_reference has_reference level_of correct_references correct_in reference_of length_fine version_fine sections_fine pairs_fine size_fine sizes_fine record_numbers_fine unit_numbers_fine reference_numbers_fine event_numbers_fine numbers_fine rises unit_fields_fine unit_spare_fine reference_spare_fine entry_spare_fine unit_fine units_fine reference_fields_fine reference_key reference_fine references_fine correction_fine violation_fine entry_fine past_fine mask_fine quantities_fine fields_fine reference_in_range bid_in_range cell_fine hour_fine event_fine events_fine month_length month_start month_from month_of day_of_month day_within window_start period_of days_fine periods_fine event_key order_fine event_listed events_listed within_capability amount_fine amounts_fine reads_correct reference_found references_found rows_fine refusal tight together sum_together time_bid time_total bid_flag group_capability group_sum withheld_flag dispatch_flag fuel_flag flagged flagged_with_impact is_instance counts_here counts_past instances n3 n2 withheld_multiplier withheld_amount withheld_penalty_of dispatch_multiplier dispatch_revenue dispatch_penalty_of energy_part gain loss tcc_change lowest_unit counts_fuel past_fuel fuel_stands fuel_multiplier_after fuel_penalty_under prior_fuel fuel_multiplier fuel_penalty_of multiplier penalty hit mitigated mitigated_mask correct_of make_up_tenths make_up_of join_to area_units past_instances sanctioned_events sanctioned list_to bid_level bearer charge_of hour_term hour_loss penalty_working_at refused_penalty penalty_working_of counted_here counted_past byte_of counted_byte correct_read restored energy_bid hour_make_up_tenths make_up_working_at refused_make_up make_up_working_of instances_answer
counted_bits = counts_agree sanctioned [] 1 (replicate 114 9) refl

-- the bids of the restored span are in force as they were bid
pub span_in_force : bid_in_force (decode minimum_generation) (correct_in minimum_generation (reference_bytes 12 1 6000)) 0 18 ≡ 15001
unfolding tight_unit bid_references bid_events bids minimum_generation cell_bytes event_of headed file_in file_of unit_bytes reference_bytes entry_bytes units sum_to count_to any_to all_to first_to last_to mask_to bit_of value_at bytes_of positive_part negative_part within threshold_of increase lower_test constrained_test percent_test time_test maximum_test bid_test unit_limit group_limit withheld_test dispatch_test cents period_counts ladder withheld_penalty dispatch_penalty fuel_day_counts fuel_charge fuel_penalty between spanned at_most lesser greater default_bid restores excess hour_make_up make_up first_widths widths_of format_in offset_of length_of section_of record_at units_in references_in violation_in past_in cells_from cells_in events_in amounts_in decode case_in is_unit is_listed place_of unit_of group_of is_reference has_reference level_of correct_references correct_in reference_of length_fine version_fine sections_fine pairs_fine size_fine sizes_fine record_numbers_fine unit_numbers_fine reference_numbers_fine event_numbers_fine numbers_fine rises unit_fields_fine unit_spare_fine reference_spare_fine entry_spare_fine unit_fine units_fine reference_fields_fine reference_key reference_fine references_fine correction_fine violation_fine entry_fine past_fine mask_fine quantities_fine fields_fine reference_in_range bid_in_range cell_fine hour_fine event_fine events_fine month_length month_start month_from month_of day_of_month day_within window_start period_of days_fine periods_fine event_key order_fine event_listed events_listed within_capability amount_fine amounts_fine reads_correct reference_found references_found rows_fine refusal tight together sum_together time_bid time_total bid_flag group_capability group_sum withheld_flag dispatch_flag fuel_flag flagged flagged_with_impact is_instance counts_here counts_past instances n3 n2 withheld_multiplier withheld_amount withheld_penalty_of dispatch_multiplier dispatch_revenue dispatch_penalty_of energy_part gain loss tcc_change lowest_unit counts_fuel past_fuel fuel_stands fuel_multiplier_after fuel_penalty_under prior_fuel fuel_multiplier fuel_penalty_of multiplier penalty hit mitigated mitigated_mask correct_of make_up_tenths make_up_of join_to area_units past_instances sanctioned_events sanctioned list_to bid_level bearer charge_of hour_term hour_loss penalty_working_at refused_penalty penalty_working_of counted_here counted_past byte_of counted_byte correct_read restored energy_bid hour_make_up_tenths make_up_working_at refused_make_up make_up_working_of
span_in_force = (by_terms minimum_generation (reference_bytes 12 1 6000) 0 refl).in_force_holds 18 (lit< tt) refl
