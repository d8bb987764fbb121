-- Demand 3 at work: a case with events of every kind, eleven changes of it, and what they cost; the case that shows why E must
-- not be negative; and the case that shows why mitigated hours are left out.
use Prim.Native.Nat.{ℕ, zero, suc, ◌≤◌}
use mathlib.Core.Bool.{Bool, true, false, beq}
use mathlib.Core.List.{List, [], ◌∷◌, ◌++◌}
use mathlib.Core.Path.{◌≡◌, refl, sym, ◌∙◌}
use native.Mathlib.Omega.{arith}
use Rattle.binary.proofs.BoundedLaws.{all_at}
use Rattle.default_bids.proofs.SpanLaws.{mitigated_span, span_same}
use lib.Dec.{lit<, lit≤}
use lib.ListN.{length, replicate}
use Rattle.binary.specs.Bounded.{sum_to, count_to, any_to, all_to, first_to, last_to, mask_to, bit_of}
use Rattle.binary.specs.Bytes.{value_at, bytes_of}
use Rattle.binary.specs.Word.{positive_part, negative_part, within}
use Rattle.binary.specs.Integers.{signed, sum_ℤ_to}
use Rattle.binary.specs.Lists.{join_to}
use Rattle.calendar.specs.Months.{month_length, month_start, month_from, month_of, day_of_month}
use Rattle.calendar.specs.Periods.{day_within, window_start, period_of}
use Rattle.tariff.specs.Ranges.{reference_in_range, bid_in_range}
use Rattle.tariff.specs.Threshold.{threshold_of}
use Rattle.tariff.specs.ConductTests.{increase, lower_test, constrained_test, percent_test, time_test, maximum_test, bid_test, unit_limit, group_limit, withheld_test, dispatch_test}
use Rattle.tariff.specs.SanctionRules.{cents, period_counts, ladder, withheld_penalty, dispatch_penalty, fuel_day_counts, fuel_charge, fuel_penalty}
use Rattle.tariff.specs.DefaultBidRules.{between, spanned, span_mask, at_most, lesser, greater, default_bid, restores, corrected_bid, corrected_in_force, excess, hour_make_up, make_up}
use Rattle.casefile.specs.Layout.{first_widths, widths_of}
use Rattle.casefile.specs.Decode.{format_in, case_in, offset_of, length_of, section_of, record_at, units_in, references_in, violation_in, past_in, cells_from, cells_in, events_in, amounts_in, decode, unit_spare_fine, reference_spare_fine, entry_spare_fine}
use Rattle.casefile.specs.Lookup.{reference_key, is_unit, is_listed, place_of, unit_of, group_of, is_reference, has_reference, level_of, correct_references, correct_in, reference_of, reads_correct, together}
use Rattle.casefile.specs.File.{headed, file_in}
use Rattle.limits.specs.Refusal.{length_fine, version_fine, sections_fine, pairs_fine, size_fine, sizes_fine, record_numbers_fine, unit_numbers_fine, reference_numbers_fine, event_numbers_fine, numbers_fine, rises, unit_fields_fine, unit_fine, units_fine, reference_fields_fine, reference_fine, references_fine, correction_fine, violation_fine, entry_fine, past_fine, mask_fine, quantities_fine, fields_fine, cell_fine, hour_fine, event_fine, events_fine, days_fine, periods_fine, event_key, order_fine, event_listed, events_listed, within_capability, amount_fine, amounts_fine, reference_found, references_found, rows_fine, refusal}
use Rattle.conduct.specs.Flags.{tight, sum_together, time_bid, time_total, bid_flag, group_capability, group_sum, withheld_flag, dispatch_flag, fuel_flag, flagged, flag_mask}
use Rattle.sanctions.specs.Penalties.{party_day_sum, party_day_e, flagged_with_impact, is_instance, counts_here, counts_past, instances, n3, n2, withheld_multiplier, withheld_amount, withheld_penalty_of, dispatch_multiplier, dispatch_revenue, dispatch_penalty_of, energy_part, gain, loss, tcc_change, lowest_unit, counts_fuel, past_fuel, fuel_stands, fuel_multiplier_after, fuel_penalty_under, prior_fuel, fuel_multiplier, fuel_penalty_of, multiplier, penalty, total_penalty}
use Rattle.default_bids.specs.Mitigation.{hit, mitigated, mitigated_mask, correct_of, bid_in_force, make_up_tenths, make_up_of, total_make_up}
use Rattle.settlement.specs.Row.{bid_bytes, row_of, rows_of}
use Rattle.settlement.specs.Settled.{Settled, accepted, answer_of, settlement_of, answer_of_settlement, rows_after, settled}
use Rattle.std.proofs.Common.{Result}
use Rattle.calls.specs.declared.answers.Refusal.{Refusal}
use Rattle.settlement.specs.declared.settle.Settled as settle
use Rattle.worked_files.specs.Files.{file_of, unit_bytes, reference_bytes, entry_bytes, units}
use Rattle.worked_files.specs.Cases.{minus, at, cell_bytes, event_of, empty, row_bytes, no_bids}
use Rattle.worse_conduct.specs.Changes.{Change, cell, entry, TakesAll, cell_place, cell_written, entry_place, entry_put, longer_past, later_events, header_moved, apply, apply_all, more_withheld, lower_bid, moved_bid, worse_bid, worse_amount}
use Rattle.worse_conduct.specs.Promise.{EnergyNotNegative, NoSmaller}
use Rattle.demands.specs.Demands.{Run, NeverCheaper}
use Rattle.demands.proofs.Demands.{demand_3}

-- withheld MW, undelivered MW, fuel of E 4,999,990, an energy bid and a maximum parameter, all of unit 12 and hour 0
unfoldable pub case_of : (past : List ℕ) (withheld undelivered bid maximum : ℕ) → List ℕ
case_of past withheld undelivered bid maximum =
    file_of units (reference_bytes 12 0 625 ++ reference_bytes 12 8 100) past
    (event_of 695 1 0 12 0 1 0 0 0 (at 0 (cell_bytes withheld 4000 0) empty)
    ++ event_of 695 2 1 12 0 1 0 0 0 (at 0 (cell_bytes undelivered 1001 0) empty)
    ++ event_of 695 3 0 12 0 0 1 499999 0 empty
    ++ event_of 695 4 0 12 0 0 0 0 0 (at 0 (cell_bytes bid 0 0) empty)
    ++ event_of 695 4 0 12 8 0 0 0 0 (at 0 (cell_bytes maximum 0 0) empty))

unfoldable pub before : List ℕ
before = case_of (entry_bytes 1 1 0 4 675) 500 0 (minus 100) 50

-- MW raised, bids raised, the maximum lowered, and entries put before, between and after the others, in a mixed order
-- the fuel entry is of the first day of the window of day 695, 184 days before it
unfoldable pub changes : List Change
changes =
    cell 0 0 501
    ∷ entry 0 (entry_bytes 1 3 0 3 511)
    ∷ cell 3 0 2500
    ∷ cell 4 0 49
    ∷ entry 1 (entry_bytes 1 1 0 3 595)
    ∷ cell 1 0 1
    ∷ cell 0 0 502
    ∷ entry 3 (entry_bytes 1 1 0 2 395)
    ∷ cell 3 0 2501
    ∷ cell 4 0 10
    ∷ cell 1 0 2000
    ∷ []

unfoldable pub after : List ℕ
after =
    case_of (entry_bytes 1 3 0 3 511 ++ entry_bytes 1 1 0 3 595 ++ entry_bytes 1 1 0 4 675 ++ entry_bytes 1 1 0 2 395) 502 2000 2501 10

changed : apply_all changes before ≡ after
unfolding case_of before changes after headed file_in file_of unit_bytes reference_bytes entry_bytes units cell_bytes event_of join_to value_at bytes_of first_widths widths_of format_in offset_of length_of section_of record_at units_in references_in violation_in past_in cells_from cells_in events_in amounts_in decode case_in cell_place cell_written entry_place entry_put longer_past later_events header_moved apply apply_all more_withheld lower_bid moved_bid worse_bid worse_amount
changed = refl

accepted_before : refusal before [] 640 ≡ 0
unfolding case_of before headed file_in file_of unit_bytes reference_bytes entry_bytes units cell_bytes event_of sum_to count_to any_to all_to first_to last_to mask_to bit_of value_at bytes_of positive_part negative_part within threshold_of increase lower_test constrained_test percent_test time_test maximum_test bid_test unit_limit group_limit withheld_test dispatch_test cents period_counts ladder withheld_penalty dispatch_penalty fuel_day_counts fuel_charge fuel_penalty between spanned span_mask at_most lesser greater default_bid restores corrected_bid corrected_in_force excess hour_make_up make_up first_widths widths_of format_in offset_of length_of section_of record_at units_in references_in violation_in past_in cells_from cells_in events_in amounts_in decode case_in is_unit is_listed place_of unit_of group_of is_reference has_reference level_of correct_references correct_in reference_of length_fine version_fine sections_fine pairs_fine size_fine sizes_fine record_numbers_fine unit_numbers_fine reference_numbers_fine event_numbers_fine numbers_fine rises unit_fields_fine unit_spare_fine reference_spare_fine entry_spare_fine unit_fine units_fine reference_fields_fine reference_key reference_fine references_fine correction_fine violation_fine entry_fine past_fine mask_fine quantities_fine fields_fine reference_in_range bid_in_range cell_fine hour_fine event_fine events_fine month_length month_start month_from month_of day_of_month day_within window_start period_of days_fine periods_fine event_key order_fine event_listed events_listed within_capability amount_fine amounts_fine reads_correct reference_found references_found rows_fine refusal tight together sum_together time_bid time_total bid_flag group_capability group_sum withheld_flag dispatch_flag fuel_flag flagged flag_mask flagged_with_impact is_instance counts_here counts_past instances n3 n2 withheld_multiplier withheld_amount withheld_penalty_of dispatch_multiplier dispatch_revenue dispatch_penalty_of energy_part gain loss tcc_change lowest_unit counts_fuel past_fuel fuel_stands fuel_multiplier_after fuel_penalty_under prior_fuel fuel_multiplier fuel_penalty_of multiplier penalty total_penalty hit mitigated mitigated_mask correct_of bid_in_force make_up_tenths make_up_of total_make_up join_to bid_bytes row_of rows_of accepted answer_of rows_after settled
accepted_before = refl

accepted_after : refusal after [] 700 ≡ 0
unfolding case_of after headed file_in file_of unit_bytes reference_bytes entry_bytes units cell_bytes event_of sum_to count_to any_to all_to first_to last_to mask_to bit_of value_at bytes_of positive_part negative_part within threshold_of increase lower_test constrained_test percent_test time_test maximum_test bid_test unit_limit group_limit withheld_test dispatch_test cents period_counts ladder withheld_penalty dispatch_penalty fuel_day_counts fuel_charge fuel_penalty between spanned span_mask at_most lesser greater default_bid restores corrected_bid corrected_in_force excess hour_make_up make_up first_widths widths_of format_in offset_of length_of section_of record_at units_in references_in violation_in past_in cells_from cells_in events_in amounts_in decode case_in is_unit is_listed place_of unit_of group_of is_reference has_reference level_of correct_references correct_in reference_of length_fine version_fine sections_fine pairs_fine size_fine sizes_fine record_numbers_fine unit_numbers_fine reference_numbers_fine event_numbers_fine numbers_fine rises unit_fields_fine unit_spare_fine reference_spare_fine entry_spare_fine unit_fine units_fine reference_fields_fine reference_key reference_fine references_fine correction_fine violation_fine entry_fine past_fine mask_fine quantities_fine fields_fine reference_in_range bid_in_range cell_fine hour_fine event_fine events_fine month_length month_start month_from month_of day_of_month day_within window_start period_of days_fine periods_fine event_key order_fine event_listed events_listed within_capability amount_fine amounts_fine reads_correct reference_found references_found rows_fine refusal tight together sum_together time_bid time_total bid_flag group_capability group_sum withheld_flag dispatch_flag fuel_flag flagged flag_mask flagged_with_impact is_instance counts_here counts_past instances n3 n2 withheld_multiplier withheld_amount withheld_penalty_of dispatch_multiplier dispatch_revenue dispatch_penalty_of energy_part gain loss tcc_change lowest_unit counts_fuel past_fuel fuel_stands fuel_multiplier_after fuel_penalty_under prior_fuel fuel_multiplier fuel_penalty_of multiplier penalty total_penalty hit mitigated mitigated_mask correct_of bid_in_force make_up_tenths make_up_of total_make_up join_to bid_bytes row_of rows_of accepted answer_of rows_after settled
accepted_after = refl

taken : TakesAll before changes
unfolding case_of before changes headed file_in file_of unit_bytes reference_bytes entry_bytes units cell_bytes event_of join_to positive_part negative_part value_at bytes_of first_widths widths_of format_in offset_of length_of section_of record_at units_in references_in violation_in past_in cells_from cells_in events_in amounts_in decode case_in cell_place cell_written entry_place entry_put longer_past later_events header_moved apply apply_all more_withheld lower_bid moved_bid worse_bid worse_amount
taken = (record { event = lit< tt; hour = lit< tt; word = lit< tt; worse = refl }, (record { place = lit≤ tt; size = refl }, (record { event = lit< tt; hour = lit< tt; word = lit< tt; worse = refl }, (record { event = lit< tt; hour = lit< tt; word = lit< tt; worse = refl }, (record { place = lit≤ tt; size = refl }, (record { event = lit< tt; hour = lit< tt; word = lit< tt; worse = refl }, (record { event = lit< tt; hour = lit< tt; word = lit< tt; worse = refl }, (record { place = lit≤ tt; size = refl }, (record { event = lit< tt; hour = lit< tt; word = lit< tt; worse = refl }, (record { event = lit< tt; hour = lit< tt; word = lit< tt; worse = refl }, (record { event = lit< tt; hour = lit< tt; word = lit< tt; worse = refl }, tt)))))))))))

energy : EnergyNotNegative (decode before)
unfolding party_day_e party_day_sum signed sum_ℤ_to case_of before headed file_in file_of unit_bytes reference_bytes entry_bytes units cell_bytes event_of sum_to count_to any_to all_to first_to last_to mask_to bit_of value_at bytes_of positive_part negative_part within threshold_of increase lower_test constrained_test percent_test time_test maximum_test bid_test unit_limit group_limit withheld_test dispatch_test cents period_counts ladder withheld_penalty dispatch_penalty fuel_day_counts fuel_charge fuel_penalty between spanned span_mask at_most lesser greater default_bid restores corrected_bid corrected_in_force excess hour_make_up make_up first_widths widths_of format_in offset_of length_of section_of record_at units_in references_in violation_in past_in cells_from cells_in events_in amounts_in decode case_in is_unit is_listed place_of unit_of group_of is_reference has_reference level_of correct_references correct_in reference_of length_fine version_fine sections_fine pairs_fine size_fine sizes_fine record_numbers_fine unit_numbers_fine reference_numbers_fine event_numbers_fine numbers_fine rises unit_fields_fine unit_spare_fine reference_spare_fine entry_spare_fine unit_fine units_fine reference_fields_fine reference_key reference_fine references_fine correction_fine violation_fine entry_fine past_fine mask_fine quantities_fine fields_fine reference_in_range bid_in_range cell_fine hour_fine event_fine events_fine month_length month_start month_from month_of day_of_month day_within window_start period_of days_fine periods_fine event_key order_fine event_listed events_listed within_capability amount_fine amounts_fine reads_correct reference_found references_found rows_fine refusal tight together sum_together time_bid time_total bid_flag group_capability group_sum withheld_flag dispatch_flag fuel_flag flagged flag_mask flagged_with_impact is_instance counts_here counts_past instances n3 n2 withheld_multiplier withheld_amount withheld_penalty_of dispatch_multiplier dispatch_revenue dispatch_penalty_of energy_part gain loss tcc_change lowest_unit counts_fuel past_fuel fuel_stands fuel_multiplier_after fuel_penalty_under prior_fuel fuel_multiplier fuel_penalty_of multiplier penalty total_penalty hit mitigated mitigated_mask correct_of bid_in_force make_up_tenths make_up_of total_make_up join_to bid_bytes row_of rows_of accepted answer_of rows_after settled
energy zero l k = absurd (omega arith)
energy (suc zero) l k = absurd (omega arith)
energy (suc (suc zero)) l k = record { le = tt }
energy (suc (suc (suc zero))) l k = absurd (omega arith)
energy (suc (suc (suc (suc zero)))) l k = absurd (omega arith)
energy (suc (suc (suc (suc (suc i))))) l k = absurd (omega arith)

-- a call on these arguments, by the definitions
pub run : (file rows : List ℕ) → Run file [] rows (settlement_of (answer_of file [] (length rows))) (rows_after file [] rows)
run file rows = record { answered = refl; left = refl }

-- demand 3 of the two calls, for two rows buffers of other lengths and contents
pub worked : NoSmaller (format_in before)
    (record { answer = answer_of_settlement (settlement_of (answer_of before [] 640)); rows = rows_after before [] (replicate 640 0) })
    (record { answer = answer_of_settlement (settlement_of (answer_of after [] 700)); rows = rows_after after [] (replicate 700 255) })
worked =
    demand_3 before after [] (replicate 640 0) (replicate 700 255) _ _ _ _ (run before (replicate 640 0)) (run after (replicate 700 255))
    changes changed taken accepted_before accepted_after energy

-- and what it costs: in every row something rose
unfoldable pub cost_before : Settled
cost_before =
    record {
      answer = record { number = 0; row_count = 5; penalties = 0; make_ups = 0 };
      rows = row_bytes 0 0 0 0 0 0 0 no_bids
          ++ row_bytes 0 0 0 0 0 0 0 no_bids
          ++ row_bytes 1 0 0 0 2 0 0 no_bids
          ++ row_bytes 0 0 0 0 0 0 0 (at 0 (minus 100) no_bids)
          ++ row_bytes 16777214 0 0 0 0 0 0 (at 0 50 no_bids);
    }

unfoldable pub cost_after : Settled
cost_after =
    record {
      answer = record { number = 0; row_count = 5; penalties = 1153101; make_ups = 0 };
      rows = row_bytes 1 0 401600 0 4 4 3 no_bids
          ++ row_bytes 1 0 1502 0 3 0 0 no_bids
          ++ row_bytes 1 0 749999 0 3 0 0 no_bids
          ++ row_bytes 1 0 0 0 0 0 0 (at 0 2501 no_bids)
          ++ row_bytes 16777215 0 0 0 0 0 0 (at 0 10 no_bids);
    }

pub cost : (settled before [] (replicate 640 0) ≡ cost_before) × (settled after [] (replicate 640 0) ≡ cost_after)
unfolding cost_before cost_after case_of before after headed file_in file_of unit_bytes reference_bytes entry_bytes units cell_bytes event_of row_bytes sum_to count_to any_to all_to first_to last_to mask_to bit_of value_at bytes_of positive_part negative_part within threshold_of increase lower_test constrained_test percent_test time_test maximum_test bid_test unit_limit group_limit withheld_test dispatch_test cents period_counts ladder withheld_penalty dispatch_penalty fuel_day_counts fuel_charge fuel_penalty between spanned span_mask at_most lesser greater default_bid restores corrected_bid corrected_in_force excess hour_make_up make_up first_widths widths_of format_in offset_of length_of section_of record_at units_in references_in violation_in past_in cells_from cells_in events_in amounts_in decode case_in is_unit is_listed place_of unit_of group_of is_reference has_reference level_of correct_references correct_in reference_of length_fine version_fine sections_fine pairs_fine size_fine sizes_fine record_numbers_fine unit_numbers_fine reference_numbers_fine event_numbers_fine numbers_fine rises unit_fields_fine unit_spare_fine reference_spare_fine entry_spare_fine unit_fine units_fine reference_fields_fine reference_key reference_fine references_fine correction_fine violation_fine entry_fine past_fine mask_fine quantities_fine fields_fine reference_in_range bid_in_range cell_fine hour_fine event_fine events_fine month_length month_start month_from month_of day_of_month day_within window_start period_of days_fine periods_fine event_key order_fine event_listed events_listed within_capability amount_fine amounts_fine reads_correct reference_found references_found rows_fine refusal tight together sum_together time_bid time_total bid_flag group_capability group_sum withheld_flag dispatch_flag fuel_flag flagged flag_mask flagged_with_impact is_instance counts_here counts_past instances n3 n2 withheld_multiplier withheld_amount withheld_penalty_of dispatch_multiplier dispatch_revenue dispatch_penalty_of energy_part gain loss tcc_change lowest_unit counts_fuel past_fuel fuel_stands fuel_multiplier_after fuel_penalty_under prior_fuel fuel_multiplier fuel_penalty_of multiplier penalty total_penalty hit mitigated mitigated_mask correct_of bid_in_force make_up_tenths make_up_of total_make_up join_to bid_bytes row_of rows_of accepted answer_of rows_after settled
cost = (refl, refl)

-- ---- E below 0

-- E −10,000,000 and T 2,000,000, alone in a case
unfoldable pub loss_making : List ℕ
loss_making = file_of (unit_bytes 12 1 0 5000) [] [] (event_of 695 3 0 12 0 0 0 (minus 1000000) 2000000 empty)

-- a past entry turns M from 2 to 3, and the penalty falls from 1,000,000 to 500,000
pub premise_needed : ((file worse rows worse_rows : List ℕ) (answer worse_answer : Result settle.Settled Refusal) (after worse_after : List ℕ)
    → Run file [] rows answer after
    → Run worse [] worse_rows worse_answer worse_after
    → NeverCheaper file worse [] rows worse_rows answer worse_answer after worse_after (λ c. Unit {0}))
    → ⊥
unfolding settlement_of loss_making headed file_in file_of unit_bytes entry_bytes event_of cell_place cell_written entry_place entry_put longer_past later_events header_moved apply apply_all more_withheld lower_bid moved_bid worse_bid worse_amount sum_to count_to any_to all_to first_to last_to mask_to bit_of value_at bytes_of positive_part negative_part within threshold_of increase lower_test constrained_test percent_test time_test maximum_test bid_test unit_limit group_limit withheld_test dispatch_test cents period_counts ladder withheld_penalty dispatch_penalty fuel_day_counts fuel_charge fuel_penalty between spanned span_mask at_most lesser greater default_bid restores corrected_bid corrected_in_force excess hour_make_up make_up first_widths widths_of format_in offset_of length_of section_of record_at units_in references_in violation_in past_in cells_from cells_in events_in amounts_in decode case_in is_unit is_listed place_of unit_of group_of is_reference has_reference level_of correct_references correct_in reference_of length_fine version_fine sections_fine pairs_fine size_fine sizes_fine record_numbers_fine unit_numbers_fine reference_numbers_fine event_numbers_fine numbers_fine rises unit_fields_fine unit_spare_fine reference_spare_fine entry_spare_fine unit_fine units_fine reference_fields_fine reference_key reference_fine references_fine correction_fine violation_fine entry_fine past_fine mask_fine quantities_fine fields_fine reference_in_range bid_in_range cell_fine hour_fine event_fine events_fine month_length month_start month_from month_of day_of_month day_within window_start period_of days_fine periods_fine event_key order_fine event_listed events_listed within_capability amount_fine amounts_fine reads_correct reference_found references_found rows_fine refusal tight together sum_together time_bid time_total bid_flag group_capability group_sum withheld_flag dispatch_flag fuel_flag flagged flag_mask flagged_with_impact is_instance counts_here counts_past instances n3 n2 withheld_multiplier withheld_amount withheld_penalty_of dispatch_multiplier dispatch_revenue dispatch_penalty_of energy_part gain loss tcc_change lowest_unit counts_fuel past_fuel fuel_stands fuel_multiplier_after fuel_penalty_under prior_fuel fuel_multiplier fuel_penalty_of multiplier penalty total_penalty hit mitigated mitigated_mask correct_of bid_in_force make_up_tenths make_up_of total_make_up join_to bid_bytes row_of rows_of accepted answer_of rows_after settled
premise_needed claim =
    let later : List ℕ = apply (entry 0 (entry_bytes 1 3 0 3 511)) loss_making in
    let fallen : 1000000 ≤ 500000 =
    (claim loss_making later (replicate 128 0) (replicate 128 0) _ _ _ _ (run loss_making (replicate 128 0)) (run later (replicate 128 0))
    (entry 0 (entry_bytes 1 3 0 3 511) ∷ []) refl (record { place = lit≤ tt; size = refl }, tt) refl refl tt).total in
    omega arith

-- ---- mitigated hours

-- a Day-Ahead bid on minimum generation with R 8, Q bits 5 and 10, over the line in hour 10
unfoldable pub running_unit : (hour5 : ℕ) → List ℕ
running_unit hour5 =
    file_of (unit_bytes 12 1 0 5000) (reference_bytes 12 1 5000) []
    (event_of 695 4 0 12 1 0 0 1056 8 (at 5 (cell_bytes hour5 0 0) (at 10 (cell_bytes 15001 0 0) empty)))

-- with these hits the mitigated hours are their span
spanned_by : (hour5 hits : ℕ) → all_to 24 (λ h. beq (hit (decode (running_unit hour5)) 0 h) (bit_of hits h)) ≡ true
    → mitigated_mask (decode (running_unit hour5)) 0 ≡ span_mask 24 (bit_of hits) 8
unfolding running_unit headed file_in file_of unit_bytes reference_bytes cell_bytes event_of join_to value_at bytes_of first_widths widths_of format_in offset_of length_of section_of record_at units_in references_in violation_in past_in cells_from cells_in events_in amounts_in decode case_in
spanned_by hour5 hits e =
    mitigated_span (decode (running_unit hour5)) 0 refl refl refl
    ∙ span_same 24 _ (bit_of hits) 8 (λ h l. beq_same _ _ (all_at 24 h _ l e))
  where
    beq_same : (x y : Bool) → beq x y ≡ true → x ≡ y
    beq_same true true q = refl
    beq_same true false q = sym q
    beq_same false true q = q
    beq_same false false q = refl

-- it has no fuel event, so that E is nowhere below 0
no_loss : EnergyNotNegative (decode (running_unit 4000))
unfolding running_unit headed file_in file_of unit_bytes reference_bytes cell_bytes event_of join_to value_at bytes_of first_widths widths_of format_in offset_of length_of section_of record_at units_in references_in violation_in past_in cells_from cells_in events_in amounts_in decode case_in
no_loss zero l k = absurd (omega arith)
no_loss (suc i) l k = absurd (omega arith)

-- hour 10 gives 10 to 17; with the bid of hour 5 raised over the line too, a change that the file takes, the span is 5 to 12.
-- Both files are accepted and E is nowhere below 0: all that demand 3 asks
pub hours_cleared : (mitigated_mask (decode (running_unit 4000)) 0 ≡ mask_to 24 (between 10 17))
    × (apply_all (cell 0 5 15001 ∷ []) (running_unit 4000) ≡ running_unit 15001)
    × (mitigated_mask (decode (running_unit 15001)) 0 ≡ mask_to 24 (between 5 12))
    × (refusal (running_unit 4000) [] 128 ≡ 0)
    × (refusal (running_unit 15001) [] 128 ≡ 0)
    × TakesAll (running_unit 4000) (cell 0 5 15001 ∷ [])
    × EnergyNotNegative (decode (running_unit 4000))
unfolding running_unit headed file_in file_of unit_bytes reference_bytes cell_bytes event_of cell_place cell_written entry_place entry_put longer_past later_events header_moved apply apply_all more_withheld lower_bid moved_bid worse_bid worse_amount sum_to count_to any_to all_to first_to last_to mask_to bit_of value_at bytes_of positive_part negative_part within threshold_of increase lower_test constrained_test percent_test time_test maximum_test bid_test unit_limit group_limit withheld_test dispatch_test cents period_counts ladder withheld_penalty dispatch_penalty fuel_day_counts fuel_charge fuel_penalty between spanned span_mask at_most lesser greater default_bid restores corrected_bid corrected_in_force excess hour_make_up make_up first_widths widths_of format_in offset_of length_of section_of record_at units_in references_in violation_in past_in cells_from cells_in events_in amounts_in decode case_in is_unit is_listed place_of unit_of group_of is_reference has_reference level_of correct_references correct_in reference_of length_fine version_fine sections_fine pairs_fine size_fine sizes_fine record_numbers_fine unit_numbers_fine reference_numbers_fine event_numbers_fine numbers_fine rises unit_fields_fine unit_spare_fine reference_spare_fine entry_spare_fine unit_fine units_fine reference_fields_fine reference_key reference_fine references_fine correction_fine violation_fine entry_fine past_fine mask_fine quantities_fine fields_fine reference_in_range bid_in_range cell_fine hour_fine event_fine events_fine month_length month_start month_from month_of day_of_month day_within window_start period_of days_fine periods_fine event_key order_fine event_listed events_listed within_capability amount_fine amounts_fine reads_correct reference_found references_found rows_fine refusal tight together sum_together time_bid time_total bid_flag group_capability group_sum withheld_flag dispatch_flag fuel_flag flagged flag_mask flagged_with_impact is_instance counts_here counts_past instances n3 n2 withheld_multiplier withheld_amount withheld_penalty_of dispatch_multiplier dispatch_revenue dispatch_penalty_of energy_part gain loss tcc_change lowest_unit counts_fuel past_fuel fuel_stands fuel_multiplier_after fuel_penalty_under prior_fuel fuel_multiplier fuel_penalty_of multiplier penalty total_penalty hit mitigated mitigated_mask correct_of bid_in_force make_up_tenths make_up_of total_make_up join_to bid_bytes row_of rows_of accepted answer_of rows_after settled
hours_cleared = (
  spanned_by 4000 1024 refl ∙ refl,
  refl,
  spanned_by 15001 1056 refl ∙ refl,
  refl,
  refl,
  (record { event = lit< tt; hour = lit< tt; word = lit< tt; worse = refl }, tt),
  no_loss,
)
