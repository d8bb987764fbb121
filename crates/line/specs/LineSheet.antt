-- Lines worked with a pencil (docs/RULES.md, C25), about the definition of the call, each by computation.
use Rattle.std.specs.Prelude.{◌-◌, ◌^◌, true, false, ◌≡◌, refl}
use Rattle.binary.specs.Word.{positive_part, negative_part}
use Rattle.tariff.specs.Ranges.{reference_in_range}
use Rattle.tariff.specs.Threshold.{threshold_of}
use Rattle.calls.specs.Answers.{refused, given}
use Rattle.calls.specs.OutOfRange.{bad_reference, bad_unit}
use Rattle.line.specs.OpenLine.{lower_line, clause_asked, constrained_line, energy_line, percent_line, time_line, maximum_line, is_time, open_line}
use Rattle.line.specs.BidLine.{line_of, no_higher, good_side}
use Rattle.line.specs.LineCall.{bad_line, line_answer}

pub record Lines : Type 0 where
  -- component 0: r and its percent are exactly the floor's 2,500; below it the floor leaves 2,499; from 3,334 on the step
  pub energy_625 : line_answer 0 625 0 false 0 0 ≡ given 2500
  pub energy_624 : line_answer 0 624 0 false 0 0 ≡ given 2499
  pub energy_5000 : line_answer 0 5000 0 false 0 0 ≡ given 15000
  -- Real-Time, tight, Average Price 5,000, H 1,000; with H 0 there is no clause
  pub constrained_2000 : line_answer 0 2000 1 true 5000 1000 ≡ given 2876
  pub unconstrained_2000 : line_answer 0 2000 1 true 5000 0 ≡ given 8000
  -- cut to the range
  pub energy_995000 : line_answer 0 995000 0 false 0 0 ≡ given 1000000
  pub cost_400000000 : line_answer 3 400000000 0 false 0 0 ≡ given 1000000000
  pub reserve_0 : line_answer 2 0 0 false 0 0 ≡ given 499
  -- the other components at r 100
  pub generation_100 : line_answer 1 100 0 false 0 0 ≡ given 2499
  pub time_100 : line_answer 4 100 0 false 0 0 ≡ given 280
  pub run_100 : line_answer 5 100 0 false 0 0 ≡ given 280
  pub down_100 : line_answer 6 100 0 false 0 0 ≡ given 280
  pub minimum_100 : line_answer 7 100 0 false 0 0 ≡ given 200
  -- component 8: the lowest bid, rounded up
  pub maximum_100 : line_answer 8 100 0 false 0 0 ≡ given 50
  pub maximum_101 : line_answer 8 101 0 false 0 0 ≡ given 51
  pub maximum_0 : line_answer 8 0 0 false 0 0 ≡ given 0
  -- the good side: a cent above the line is not, a bid of -40.00 is; of component 8 a bid below its line is not
  pub cent_above : good_side 0 2877 2876 ≡ false
  pub negative_bid : good_side 0 (2 ^ 32 - 4000) 2876 ≡ true
  pub below_maximum : good_side 8 49 50 ≡ false
  -- 16: no such component; a reference out of its range; arguments that component 3 does not read
  pub component_9 : line_answer 9 0 0 false 0 0 ≡ refused 16
  pub reference_1000001 : line_answer 2 1000001 0 false 0 0 ≡ refused 16
  pub market_2 : line_answer 3 0 2 false 0 0 ≡ refused 16
  pub average_1000001 : line_answer 3 0 0 false 1000001 0 ≡ refused 16
  pub hours_8785 : line_answer 3 0 0 false 0 8785 ≡ refused 16

pub lines : Lines
unfolding reference_in_range threshold_of bad_reference bad_unit lower_line clause_asked constrained_line energy_line percent_line time_line maximum_line is_time open_line line_of positive_part negative_part no_higher good_side bad_line line_answer
lines =
    record {
      energy_625 = refl;
      energy_624 = refl;
      energy_5000 = refl;
      constrained_2000 = refl;
      unconstrained_2000 = refl;
      energy_995000 = refl;
      cost_400000000 = refl;
      reserve_0 = refl;
      generation_100 = refl;
      time_100 = refl;
      run_100 = refl;
      down_100 = refl;
      minimum_100 = refl;
      maximum_100 = refl;
      maximum_101 = refl;
      maximum_0 = refl;
      cent_above = refl;
      negative_bid = refl;
      below_maximum = refl;
      component_9 = refl;
      reference_1000001 = refl;
      market_2 = refl;
      average_1000001 = refl;
      hours_8785 = refl;
    }
