-- Workings by computation, from the bytes of the file: an hour of each kind, a bid of three components, and three refusals.
use Prim.Native.Nat.{ℕ}
use mathlib.Core.Bool.{Bool, true, false}
use mathlib.Core.List.{List, [], ◌∷◌}
use mathlib.Core.Path.{◌≡◌, refl}
use lib.ListN.{replicate}
use Rattle.binary.specs.Bounded.{sum_to, count_to, any_to, all_to, last_to, bit_of}
use Rattle.binary.specs.Bytes.{value_at, bytes_of}
use Rattle.binary.specs.Word.{positive_part, negative_part, within}
use Rattle.binary.specs.Lists.{join_to}
use Rattle.calendar.specs.Months.{month_length, month_start, month_from, month_of}
use Rattle.calendar.specs.Periods.{period_of}
use Rattle.tariff.specs.Ranges.{reference_in_range, bid_in_range}
use Rattle.tariff.specs.Threshold.{threshold_of}
use Rattle.tariff.specs.ConductTests.{increase, lower_test, constrained_test, percent_test, time_test, maximum_test, bid_test, unit_limit, group_limit, withheld_test, dispatch_test}
use Rattle.tariff.specs.Comparisons.{first_failed, comparisons_of, first_bid_comparison, second_bid_comparison, bid_comparisons, withheld_comparisons, dispatch_comparisons, fuel_comparisons}
use Rattle.tariff.specs.SanctionRules.{period_counts}
use Rattle.casefile.specs.Layout.{first_widths, widths_of}
use Rattle.casefile.specs.Decode.{format_in, case_in, offset_of, length_of, section_of, record_at, units_in, references_in, violation_in, past_in, cells_from, cells_in, events_in, amounts_in, decode, unit_spare_fine, reference_spare_fine, entry_spare_fine}
use Rattle.casefile.specs.Lookup.{reference_key, is_unit, is_listed, place_of, unit_of, group_of, is_reference, has_reference, level_of, correct_references, reference_of, reads_correct, together}
use Rattle.casefile.specs.File.{headed, file_in}
use Rattle.casefile.specs.Lookup.{bid_level}
use Rattle.limits.specs.Refusal.{length_fine, version_fine, sections_fine, pairs_fine, size_fine, sizes_fine, record_numbers_fine, unit_numbers_fine, reference_numbers_fine, event_numbers_fine, numbers_fine, rises, unit_fields_fine, unit_fine, units_fine, reference_fields_fine, reference_fine, references_fine, correction_fine, violation_fine, entry_fine, past_fine, mask_fine, quantities_fine, fields_fine, cell_fine, hour_fine, event_fine, events_fine, days_fine, periods_fine, event_key, order_fine, event_listed, events_listed, within_capability, amount_fine, amounts_fine, reference_found, references_found, rows_fine, refusal}
use Rattle.conduct.specs.Flags.{tight, sum_together, time_bid, time_total, bid_flag, group_capability, group_sum, withheld_flag, dispatch_flag, fuel_flag, flagged}
use Rattle.sanctions.specs.Penalties.{flagged_with_impact, is_instance, counts_here, counts_past, instances, n3, n2}
use Rattle.working.specs.declared.figures.Working.{Working}
use Rattle.working.specs.Working.{fuel_events, sums_of, total_of, figures_with, figures_of, comparisons_for, decrease, working_from, counts_of, working_at, refused_working, working_of}
use Rattle.worked_files.specs.Files.{file_of, unit_bytes, reference_bytes, entry_bytes, event_bytes, units, withheld, listing}
use Rattle.worked_files.specs.Cases.{tight_unit, cell_bytes, event_of, area_units, past_instances, sanctioned_events, sanctioned, bid_references, bid_events, bids}

abbrev shown : (flagged tight : Bool) (failed taken a reference increase decrease s g total n3 n2 : ℕ) (left right : List ℕ) → Working
shown flagged tight failed taken a reference increase decrease s g total n3 n2 left right =
    record {
      number = 0;
      flagged = flagged;
      tight = tight;
      failed = failed;
      taken = taken;
      a = a;
      reference = reference;
      increase = increase;
      decrease = decrease;
      s = s;
      g = g;
      total = total;
      n3 = n3;
      n2 = n2;
      left = left;
      right = right;
    }

pub record Workings : Type 0 where
  -- 10 × 501 is above the capability
  pub listing_hour : working_of listing [] 0 0
      ≡ shown true false 1 15 501 0 0 0 501 20000 0 1 1 (5010 ∷ 501 ∷ 10020 ∷ 501 ∷ []) (5000 ∷ 1000 ∷ 20000 ∷ 2000 ∷ [])
  pub hour_passed : working_of listing [] 0 1
      ≡ shown false false 0 15 0 0 0 0 0 20000 0 1 1 (0 ∷ 0 ∷ 0 ∷ 0 ∷ []) (5000 ∷ 1000 ∷ 20000 ∷ 2000 ∷ [])
  -- S is 400 + 700, and 20 × S above G
  pub withheld_together : working_of sanctioned [] 1 1
      ≡ shown true false 3 15 700 0 0 0 1100 20000 0 5 4 (7000 ∷ 700 ∷ 22000 ∷ 1100 ∷ []) (15000 ∷ 1000 ∷ 20000 ∷ 2000 ∷ [])
  -- 501 is above 500 in a tight hour
  pub dispatch_tight : working_of sanctioned [] 2 3
      ≡ shown true true 2 7 501 0 0 0 501 0 0 0 0 (501 ∷ 501 ∷ 501 ∷ 0 ∷ []) (1500 ∷ 500 ∷ 1000 ∷ 0 ∷ [])
  -- the hour is another event's of the party-day
  pub fuel_union : working_of sanctioned [] 4 0 ≡ shown true false 1 1 50 0 0 0 0 0 0 0 0 (1 ∷ 0 ∷ 0 ∷ 0 ∷ []) (0 ∷ 0 ∷ 0 ∷ 0 ∷ [])
  -- 10 × 877 × 1,000 is above 1,752 × 5,000
  pub bid_constrained : working_of bids [] 0 2
      ≡ shown true true 2 3 2877 2000 877 0 0 0 0 0 0 (877 ∷ 8770000 ∷ 0 ∷ 0 ∷ []) (6000 ∷ 8760000 ∷ 0 ∷ 0 ∷ [])
  -- 121 + 120 + 120 is above 360
  pub bid_time : working_of bids [] 2 0 ≡ shown true false 2 3 220 100 120 0 0 0 361 0 0 (120 ∷ 361 ∷ 0 ∷ 0 ∷ []) (180 ∷ 360 ∷ 0 ∷ 0 ∷ [])
  -- 2 × 49 is below r
  pub bid_maximum : working_of bids [] 4 0 ≡ shown true false 1 1 49 100 0 51 0 0 0 0 0 (100 ∷ 0 ∷ 0 ∷ 0 ∷ []) (98 ∷ 0 ∷ 0 ∷ 0 ∷ [])
  pub no_event : working_of listing [] 1 0 ≡ refused_working 10
  pub no_hour : working_of listing [] 0 24 ≡ refused_working 10
  pub no_case : working_of (replicate 35 0) [] 0 0 ≡ refused_working 1

pub workings : Workings
unfolding tight_unit area_units past_instances sanctioned_events sanctioned bid_references bid_events bids cell_bytes event_of headed file_in file_of unit_bytes reference_bytes entry_bytes event_bytes units withheld listing sum_to count_to any_to all_to last_to bit_of value_at bytes_of positive_part negative_part within threshold_of increase lower_test constrained_test percent_test time_test maximum_test bid_test unit_limit group_limit withheld_test dispatch_test period_counts first_widths widths_of format_in offset_of length_of section_of record_at units_in references_in violation_in past_in cells_from cells_in events_in amounts_in decode case_in is_unit is_listed place_of unit_of group_of is_reference has_reference level_of correct_references reference_of length_fine version_fine sections_fine pairs_fine size_fine sizes_fine record_numbers_fine unit_numbers_fine reference_numbers_fine event_numbers_fine numbers_fine rises unit_fields_fine unit_spare_fine reference_spare_fine entry_spare_fine unit_fine units_fine reference_fields_fine reference_key reference_fine references_fine correction_fine violation_fine entry_fine past_fine mask_fine quantities_fine fields_fine reference_in_range bid_in_range cell_fine hour_fine event_fine events_fine month_length month_start month_from month_of period_of days_fine periods_fine event_key order_fine event_listed events_listed within_capability amount_fine amounts_fine reads_correct reference_found references_found rows_fine refusal tight together sum_together time_bid time_total bid_flag group_capability group_sum withheld_flag dispatch_flag fuel_flag flagged flagged_with_impact is_instance counts_here counts_past instances n3 n2 join_to bid_level first_failed comparisons_of withheld_comparisons dispatch_comparisons fuel_comparisons first_bid_comparison second_bid_comparison bid_comparisons fuel_events sums_of total_of figures_with figures_of comparisons_for decrease working_from counts_of working_at refused_working working_of
workings =
    record {
      listing_hour = refl;
      hour_passed = refl;
      withheld_together = refl;
      dispatch_tight = refl;
      fuel_union = refl;
      bid_constrained = refl;
      bid_time = refl;
      bid_maximum = refl;
      no_event = refl;
      no_hour = refl;
      no_case = refl;
    }
