-- The smaller calls of mitigated hours, bids in force and make-up (docs/RULES.md, C14 to C17): first 7, then 10, then the figure.
use Rattle.std.specs.Prelude.{ℕ, ◌^◌, Bool, false, not, ◌||◌, ltb, leb}
use Rattle.binary.specs.Bounded.{bit_of}
use Rattle.binary.specs.Word.{within}
use Rattle.tariff.specs.Ranges.{most_run_hours, highest_price, highest_megawatts}
use Rattle.tariff.specs.DefaultBidRules.{day_hours, span_mask, in_force, corrected_in_force, hour_make_up, make_up}
use Rattle.calls.specs.Answers.{Answer, answer}
use Rattle.calls.specs.OutOfRange.{bad_reference, bad_bid, bad_unit}

-- the mask of hours that are flagged with their Q bit, and R
unfoldable pub span_answer : (hits R : ℕ) → Answer
span_answer hits R = answer false (leb (2 ^ day_hours) hits || ltb most_run_hours R) (span_mask day_hours (bit_of hits) R)

-- the figure is the bid's word
unfoldable pub in_force_answer : (component a r : ℕ) (mitigated : Bool) → Answer
in_force_answer component a r mitigated =
    answer (bad_reference component r) (bad_bid component a) (in_force component a r mitigated)

unfoldable pub corrected_in_force_answer : (component a r c market : ℕ) (tight : Bool) (average_price H : ℕ) (mitigated : Bool) → Answer
corrected_in_force_answer component a r c market tight average_price H mitigated =
    answer (bad_reference component r || bad_reference component c) (bad_bid component a || bad_unit market average_price H)
    (corrected_in_force component a r c market tight average_price H mitigated)

-- one mitigated hour of component 0
unfoldable pub make_up_answer : (a b m r c : ℕ) → Answer
make_up_answer a b m r c =
    answer (bad_reference 0 r || bad_reference 0 c)
    (bad_bid 0 a || not (within 32 highest_price b) || ltb highest_megawatts m)
    (make_up r c (hour_make_up a b m c))
