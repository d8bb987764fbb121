-- The smaller calls of the conduct tests (docs/RULES.md, C4 to C7): first 7, then 10, then 1 where the test fails.
use Rattle.std.specs.Prelude.{ℕ, ◌+◌, Bool, false, not, ◌||◌, ltb}
use Rattle.binary.specs.Word.{positive_part, within}
use Rattle.tariff.specs.Ranges.{lowest_capability, highest_capability, highest_rate, highest_increase, highest_group_sum}
use Rattle.tariff.specs.Threshold.{threshold_of}
use Rattle.tariff.specs.ConductTests.{bid_test, time_test, withheld_test, dispatch_test}
use Rattle.calls.specs.Answers.{Answer, TimeAnswer, answer, time_answered, bit}
use Rattle.calls.specs.OutOfRange.{bad_reference, bad_bid, bad_unit}

unfoldable pub bid_answer : (component r a market : ℕ) (tight : Bool) (average_price H : ℕ) → Answer
bid_answer component r a market tight average_price H =
    answer (bad_reference component r) (bad_bid component a || bad_unit market average_price H)
    (bit (bid_test component r a market tight average_price H 0))

-- x, y and z are the increases d of components 4, 5 and 6, signed words; the positive ones add up
unfoldable pub increase_total : (x y z : ℕ) → ℕ
increase_total x y z = positive_part 32 x + positive_part 32 y + positive_part 32 z

unfoldable pub times_answer : (x y z : ℕ) → TimeAnswer
times_answer x y z =
    time_answered
    (not (within 32 highest_increase x) || not (within 32 highest_increase y) || not (within 32 highest_increase z))
    (time_test (threshold_of 4) (positive_part 32 x) (increase_total x y z))
    (time_test (threshold_of 5) (positive_part 32 y) (increase_total x y z))
    (time_test (threshold_of 6) (positive_part 32 z) (increase_total x y z))

-- an a above the capability is out of its range
unfoldable pub withheld_answer : (a capability S G : ℕ) (tight : Bool) → Answer
withheld_answer a capability S G tight =
    answer false
    (ltb capability lowest_capability || ltb highest_capability capability || ltb capability a || ltb highest_group_sum S
    || ltb highest_group_sum G)
    (bit (withheld_test a capability S G tight))

-- a has no capability beside it here, and goes up to the highest
unfoldable pub dispatch_answer : (a rate S : ℕ) (tight : Bool) → Answer
dispatch_answer a rate S tight =
    answer false (ltb highest_capability a || ltb highest_rate rate || ltb highest_group_sum S)
    (bit (dispatch_test a rate S tight))
