-- The starred lines of the pencil sheet (docs/RULES.md, C18), about the definitions themselves, each by computation.
use Rattle.std.specs.Prelude.{ℕ, ◌+◌, ◌-◌, ◌^◌, true, false, [], ◌∷◌, ◌≡◌, refl}
use Rattle.binary.specs.Bounded.{sum_to, any_to, first_to, last_to, mask_to, bit_of}
use Rattle.binary.specs.Word.{positive_part, negative_part, within}
use Rattle.tariff.specs.Ranges.{reference_in_range, bid_in_range}
use Rattle.tariff.specs.Threshold.{threshold_of}
use Rattle.tariff.specs.ConductTests.{increase, lower_test, constrained_test, percent_test, time_test, maximum_test, bid_test, unit_limit, group_limit, withheld_test}
use Rattle.tariff.specs.SanctionRules.{cents, ladder, withheld_penalty, fuel_charge, fuel_penalty}
use Rattle.tariff.specs.DefaultBidRules.{between, spanned, span_mask}
use Rattle.calls.specs.Answers.{given, bit, answer, times_given, time_answered}
use Rattle.calls.specs.OutOfRange.{bad_reference, bad_bid, bad_unit}
use Rattle.test_calls.specs.ConductCalls.{increase_total, bid_answer, times_answer, withheld_answer}
use Rattle.penalty_calls.specs.SanctionCalls.{bad_instances, bad_multiplier, bad_hour, bad_hours, amount_at, bad_fuel, multiplier_answer, withheld_penalty_answer, fuel_penalty_answer}
use Rattle.bid_calls.specs.DefaultBidCalls.{span_answer}

-- the hours from the first to the last, as a mask
abbrev pub hours_from : (first last : ℕ) → ℕ
hours_from first last = 2 ^ (last + 1) - 2 ^ first

-- a test's figure is 1 where it fails; a withheld unit is alone in its group's sum
pub record Pencil : Type 0 where
  -- a 500 of 5,000 in G 20,000 passes; 501 fails
  pub withheld_500 : withheld_answer 500 5000 500 20000 false ≡ given 0
  pub withheld_501 : withheld_answer 501 5000 501 20000 false ≡ given 1
  -- 501 at 4,005: 200,651
  pub penalty_501 : withheld_penalty_answer 2 (501 ∷ []) (4005 ∷ []) ≡ given 200651
  -- N3 4, N2 3: 4; N2 4: 6
  pub third_instance : multiplier_answer 4 3 ≡ given 4
  pub fourth_instance : multiplier_answer 4 4 ≡ given 6
  -- r 625, a 2,500 passes; r 624 fails
  pub energy_625 : bid_answer 0 625 2500 0 false 0 0 ≡ given 0
  pub energy_624 : bid_answer 0 624 2500 0 false 0 0 ≡ given 1
  -- Real-Time, tight, Average 5,000, H 1,000, r 2,000: 2,876 passes, 2,877 fails
  pub constrained_2876 : bid_answer 0 2000 2876 1 true 5000 1000 ≡ given 0
  pub constrained_2877 : bid_answer 0 2000 2877 1 true 5000 1000 ≡ given 1
  -- time increases 120, 120, 120 pass; 121, 120, 120 all fail
  pub times_360 : times_answer 120 120 120 ≡ times_given false false false
  pub times_361 : times_answer 121 120 120 ≡ times_given true true true
  -- E 5,000,000, T 0, M 2: 500,000; 4,999,990: 0, with M 3 749,999
  pub fuel_5000000 : fuel_penalty_answer 5000000 0 2 ≡ given 500000
  pub fuel_4999990 : fuel_penalty_answer 4999990 0 2 ≡ given 0
  pub fuel_three_halves : fuel_penalty_answer 4999990 0 3 ≡ given 749999
  -- wrong reading: one more flag lengthening every span. Hour 10, R 8 gives 10 to 17; hours 5 and 10 give 5 to 12
  pub span_one_hour : span_answer (2 ^ 10) 8 ≡ given (hours_from 10 17)
  pub span_two_hours : span_answer (2 ^ 5 + 2 ^ 10) 8 ≡ given (hours_from 5 12)
  -- wrong reading: a prior fuel penalty always raising the next. E −10,000,000, T 2,000,000: M 2 gives 1,000,000, M 3 gives 500,000
  pub fuel_loss_two : fuel_penalty_answer (2 ^ 64 - 10000000) 2000000 2 ≡ given 1000000
  pub fuel_loss_three : fuel_penalty_answer (2 ^ 64 - 10000000) 2000000 3 ≡ given 500000

pub pencil : Pencil
unfolding sum_to any_to first_to last_to mask_to bit_of positive_part negative_part within reference_in_range bid_in_range threshold_of increase lower_test constrained_test percent_test time_test maximum_test bid_test unit_limit group_limit withheld_test cents ladder withheld_penalty fuel_charge fuel_penalty between spanned span_mask bit answer time_answered bad_reference bad_bid bad_unit bad_instances bad_multiplier bad_hour bad_hours amount_at bad_fuel increase_total bid_answer times_answer withheld_answer multiplier_answer withheld_penalty_answer fuel_penalty_answer span_answer
pencil =
    record {
      withheld_500 = refl;
      withheld_501 = refl;
      penalty_501 = refl;
      third_instance = refl;
      fourth_instance = refl;
      energy_625 = refl;
      energy_624 = refl;
      constrained_2876 = refl;
      constrained_2877 = refl;
      times_360 = refl;
      times_361 = refl;
      fuel_5000000 = refl;
      fuel_4999990 = refl;
      fuel_three_halves = refl;
      span_one_hour = refl;
      span_two_hours = refl;
      fuel_loss_two = refl;
      fuel_loss_three = refl;
    }
