-- Multipliers of cases: each case of the ladder, and M by the whole file.
use Prim.Native.Nat.{ℕ, zero, suc}
use mathlib.Core.Bool.{Bool, true, ◌&&◌}
use mathlib.Core.List.{List, [], ◌∷◌}
use mathlib.Core.Path.{◌≡◌, refl, sym, ◌∙◌}
use Rattle.binary.specs.Bounded.{sum_to, count_to, any_to, all_to, last_to, bit_of}
use Rattle.binary.specs.Bytes.{value_at, bytes_of}
use Rattle.binary.specs.Word.{positive_part, negative_part, within}
use Rattle.binary.specs.Lists.{Bytes, join_to}
use Rattle.calendar.specs.Months.{month_length, month_start, month_from, month_of, day_of_month}
use Rattle.calendar.specs.Periods.{day_within, window_start, period_of}
use Rattle.tariff.specs.Ranges.{reference_in_range, bid_in_range}
use Rattle.tariff.specs.Threshold.{threshold_of}
use Rattle.tariff.specs.ConductTests.{increase, lower_test, constrained_test, percent_test, time_test, maximum_test, bid_test, unit_limit, group_limit, withheld_test, dispatch_test}
use Rattle.tariff.specs.Ladder.{FirstInstance, SecondInstance, ThirdInstance, FourthInstance, OneCase}
use Rattle.tariff.specs.SanctionRules.{cents, period_counts, ladder, withheld_penalty, dispatch_penalty, fuel_day_counts, fuel_charge, fuel_penalty}
use Rattle.casefile.specs.Layout.{first_widths, widths_of}
use Rattle.casefile.specs.Decode.{format_in, case_in, offset_of, length_of, section_of, record_at, units_in, references_in, violation_in, past_in, cells_from, cells_in, events_in, amounts_in, decode, unit_spare_fine, reference_spare_fine, entry_spare_fine}
use Rattle.casefile.specs.Lookup.{reference_key, is_unit, is_listed, place_of, unit_of, group_of, is_reference, has_reference, level_of, correct_references, reference_of, reads_correct, together}
use Rattle.casefile.specs.File.{headed, file_in}
use Rattle.limits.specs.Refusal.{length_fine, version_fine, sections_fine, pairs_fine, size_fine, sizes_fine, record_numbers_fine, unit_numbers_fine, reference_numbers_fine, event_numbers_fine, numbers_fine, rises, unit_fields_fine, unit_fine, units_fine, reference_fields_fine, reference_fine, references_fine, correction_fine, violation_fine, entry_fine, past_fine, mask_fine, quantities_fine, fields_fine, cell_fine, hour_fine, event_fine, events_fine, days_fine, periods_fine, event_key, order_fine, event_listed, events_listed, within_capability, amount_fine, amounts_fine, reference_found, references_found, rows_fine, refusal}
use Rattle.conduct.specs.Flags.{tight, sum_together, time_bid, time_total, bid_flag, group_capability, group_sum, withheld_flag, dispatch_flag, fuel_flag, flagged}
use Rattle.sanctions.specs.Penalties.{fuel_multiplier_here, flagged_with_impact, is_instance, counts_here, counts_past, instances, n3, n2, withheld_multiplier, withheld_amount, withheld_penalty_of, dispatch_multiplier, dispatch_revenue, dispatch_penalty_of, energy_part, gain, loss, tcc_change, lowest_unit, counts_fuel, past_fuel, fuel_stands, fuel_multiplier_after, fuel_penalty_under, prior_fuel, fuel_multiplier, fuel_penalty_of, multiplier, penalty}
use Rattle.worked_files.specs.Files.{file_of, unit_bytes, reference_bytes, entry_bytes, units}
use Rattle.worked_files.specs.Cases.{tight_unit, cell_bytes, event_of, area_units, past_instances, sanctioned_events, sanctioned, two_days_events, two_days}
use lib.Dec.{ltb, lit<, lit≤}
use borrow.Author.Tests.{ltb-true}
use Rattle.binary.proofs.Implies.{and_l, and_r}
use Rattle.sanctions.proofs.InstanceLaws.{instances_by_ladder}
use Rattle.sanctions.proofs.WholeFile.{multiplier_by_file}

-- ---- the ladder

-- that case of the ladder holds of event i, no other does, and its row has these halves
abbrev Instance : (file : List ℕ) (i : ℕ) → (holds : ℕ → ℕ → Type 0) → (halves : ℕ) → Type 0
Instance file i holds halves =
    let c = decode file in holds (n3 c i) (n2 c i) × OneCase (n3 c i) (n2 c i) × (multiplier c i ≡ halves)

pub record EachCase : Type 0 where
  pub first : Instance two_days 0 (λ n3 _. FirstInstance n3) 2
  pub second : Instance two_days 2 (λ n3 _. SecondInstance n3) 2
  pub third : Instance sanctioned 0 ThirdInstance 4
  pub fourth : Instance sanctioned 1 (λ _ n2. FourthInstance n2) 6

pub each_case : EachCase
unfolding two_days_events two_days tight_unit area_units past_instances sanctioned_events sanctioned cell_bytes event_of headed file_in file_of unit_bytes reference_bytes entry_bytes units sum_to count_to any_to all_to last_to bit_of value_at bytes_of positive_part negative_part within threshold_of increase lower_test constrained_test percent_test time_test maximum_test bid_test unit_limit group_limit withheld_test dispatch_test period_counts first_widths widths_of format_in offset_of length_of section_of record_at units_in references_in violation_in past_in cells_from cells_in events_in amounts_in decode case_in is_unit is_listed place_of unit_of group_of is_reference has_reference level_of correct_references reference_of length_fine version_fine sections_fine pairs_fine size_fine sizes_fine record_numbers_fine unit_numbers_fine reference_numbers_fine event_numbers_fine numbers_fine rises unit_fields_fine unit_spare_fine reference_spare_fine entry_spare_fine unit_fine units_fine reference_fields_fine reference_key reference_fine references_fine correction_fine violation_fine entry_fine past_fine mask_fine quantities_fine fields_fine reference_in_range bid_in_range cell_fine hour_fine event_fine events_fine month_length month_start month_from month_of period_of days_fine periods_fine event_key order_fine event_listed events_listed within_capability amount_fine amounts_fine reads_correct reference_found references_found rows_fine refusal tight together sum_together time_bid time_total bid_flag group_capability group_sum withheld_flag dispatch_flag fuel_flag flagged flagged_with_impact is_instance counts_here counts_past instances n3 n2 join_to
each_case =
    record {
      first = let w = instances_by_ladder two_days [] 640 0 refl (lit< tt) refl in (refl, w.printed.one, w.on_row ∙ w.printed.first refl);
      second = let w = instances_by_ladder two_days [] 640 2 refl (lit< tt) refl in (refl, w.printed.one, w.on_row ∙ w.printed.second refl);
      third = let w = instances_by_ladder sanctioned [] 768 0 refl (lit< tt) refl in ((lit≤ tt, lit≤ tt), w.printed.one, w.on_row ∙ w.printed.third (lit≤ tt, lit≤ tt));
      fourth = let w = instances_by_ladder sanctioned [] 768 1 refl (lit< tt) refl in (lit≤ tt, w.printed.one, w.on_row ∙ w.printed.fourth (lit≤ tt));
    }

-- ---- M

-- the numbers of a file are bytes, by computation
all_bytes : List ℕ → Bool
all_bytes [] = true
all_bytes (x ∷ xs) = ltb x 256 && all_bytes xs

bytes_are : (s : List ℕ) → all_bytes s ≡ true → Bytes s
unfolding all_bytes
bytes_are [] e k = lit< tt
bytes_are (x ∷ xs) e zero = ltb-true x 256 (and_l (ltb x 256) (all_bytes xs) e)
bytes_are (x ∷ xs) e (suc k) = bytes_are xs (and_r (ltb x 256) (all_bytes xs) e) k

bytes : Bytes sanctioned
unfolding all_bytes tight_unit area_units past_instances sanctioned_events sanctioned cell_bytes event_of headed file_in file_of unit_bytes reference_bytes entry_bytes units bytes_of join_to
bytes = bytes_are sanctioned refl

-- the last row is the fuel event 100 days after a party-day with a penalty: M is 3, so that some row of the file has a fuel penalty above 0 that counts, or a past entry does
pub after_a_penalty : fuel_multiplier_here (decode sanctioned) 5 ≡ 3
unfolding tight_unit area_units past_instances sanctioned_events sanctioned cell_bytes event_of headed file_in file_of unit_bytes reference_bytes entry_bytes units sum_to count_to any_to all_to last_to bit_of value_at bytes_of positive_part negative_part within threshold_of increase lower_test constrained_test percent_test time_test maximum_test bid_test unit_limit group_limit withheld_test dispatch_test cents period_counts ladder withheld_penalty dispatch_penalty fuel_day_counts fuel_charge fuel_penalty first_widths widths_of format_in offset_of length_of section_of record_at units_in references_in violation_in past_in cells_from cells_in events_in amounts_in decode case_in is_unit is_listed place_of unit_of group_of is_reference has_reference level_of correct_references reference_of length_fine version_fine sections_fine pairs_fine size_fine sizes_fine record_numbers_fine unit_numbers_fine reference_numbers_fine event_numbers_fine numbers_fine rises unit_fields_fine unit_spare_fine reference_spare_fine entry_spare_fine unit_fine units_fine reference_fields_fine reference_key reference_fine references_fine correction_fine violation_fine entry_fine past_fine mask_fine quantities_fine fields_fine reference_in_range bid_in_range cell_fine hour_fine event_fine events_fine month_length month_start month_from month_of day_of_month day_within window_start period_of days_fine periods_fine event_key order_fine event_listed events_listed within_capability amount_fine amounts_fine reads_correct reference_found references_found rows_fine refusal tight together sum_together time_bid time_total bid_flag group_capability group_sum withheld_flag dispatch_flag fuel_flag flagged flagged_with_impact is_instance counts_here counts_past instances withheld_multiplier withheld_amount withheld_penalty_of dispatch_multiplier dispatch_revenue dispatch_penalty_of energy_part gain loss tcc_change lowest_unit counts_fuel past_fuel fuel_stands fuel_multiplier_after fuel_penalty_under prior_fuel fuel_multiplier fuel_penalty_of multiplier penalty join_to
after_a_penalty = sym (multiplier_by_file sanctioned [] 768 5 bytes refl (lit< tt) refl refl) ∙ refl
