-- The smaller calls of multipliers, penalties and windows (docs/RULES.md, C8 to C13 and C26): first 10, then the figure.
use Rattle.std.specs.Prelude.{ℕ, ◌*◌, Bool, false, not, ◌||◌, List, ◌≡◌, ltb, leb, eqb, length, get_or}
use Rattle.binary.specs.Bounded.{any_to, sum_to}
use Rattle.binary.specs.Word.{positive_part, negative_part, within}
use Rattle.calendar.specs.Months.{calendar_days}
use Rattle.calendar.specs.Periods.{period_of}
use Rattle.tariff.specs.Ranges.{highest_capability, highest_price, highest_revenue, fewest_instances, most_instances, fewest_periods_back, most_periods_back, highest_e, highest_t, lowest_fuel_multiplier, highest_fuel_multiplier}
use Rattle.tariff.specs.Ladder.{InstancesInRange, AsPrinted}
use Rattle.tariff.specs.SanctionRules.{ladder, withheld_penalty, dispatch_penalty, fuel_penalty, fuel_day_counts, period_counts}
use Rattle.tariff.specs.DefaultBidRules.{day_hours}
use Rattle.calls.specs.Answers.{Answer, refused, given, answer, bit}

-- N2 is at most N3
unfoldable pub bad_instances : (n3 n2 : ℕ) → Bool
bad_instances n3 n2 = ltb n3 fewest_instances || ltb most_instances n3 || ltb n2 fewest_instances || ltb n3 n2

unfoldable pub multiplier_answer : (n3 n2 : ℕ) → Answer
multiplier_answer n3 n2 = answer false (bad_instances n3 n2) (ladder n3 n2)

-- in range the call gives the halves of the one case that holds, and out of it 10
pub record AnsweredAsPrinted (n3 n2 : ℕ) : Type 0 where
  pub in_range : InstancesInRange n3 n2 → (multiplier_answer n3 n2 ≡ given (ladder n3 n2)) × AsPrinted n3 n2
  pub out_of_range : ¬ InstancesInRange n3 n2 → multiplier_answer n3 n2 ≡ refused 10

-- in halves, what the ladder gives, or 0 for no instance
unfoldable pub bad_multiplier : (multiplier : ℕ) → Bool
bad_multiplier multiplier = not (eqb multiplier 0 || eqb multiplier 2 || eqb multiplier 4 || eqb multiplier 6)

unfoldable pub bad_hour : (a b : List ℕ) → ℕ → Bool
bad_hour a b h = ltb highest_capability (get_or a h 0) || not (within 32 highest_price (get_or b h 0))

-- the flagged hours' a and b are as many, at most a day's
unfoldable pub bad_hours : (a b : List ℕ) → Bool
bad_hours a b = not (eqb (length a) (length b)) || ltb day_hours (length a) || any_to (length a) (bad_hour a b)

-- a × (b, or 0 if negative)
unfoldable pub amount_at : (a b : List ℕ) → ℕ → ℕ
amount_at a b h = get_or a h 0 * positive_part 32 (get_or b h 0)

unfoldable pub withheld_penalty_answer : (multiplier : ℕ) (a b : List ℕ) → Answer
withheld_penalty_answer multiplier a b =
    answer false (bad_multiplier multiplier || bad_hours a b)
    (withheld_penalty multiplier (sum_to (length a) (amount_at a b)))

-- the flagged hours' b
unfoldable pub bad_revenue : (b : List ℕ) → ℕ → Bool
bad_revenue b h = ltb highest_revenue (get_or b h 0)

unfoldable pub bad_revenues : (b : List ℕ) → Bool
bad_revenues b = ltb day_hours (length b) || any_to (length b) (bad_revenue b)

unfoldable pub revenue_at : (b : List ℕ) → ℕ → ℕ
revenue_at b h = get_or b h 0

unfoldable pub dispatch_penalty_answer : (b : List ℕ) → Answer
dispatch_penalty_answer b = answer false (bad_revenues b) (dispatch_penalty (sum_to (length b) (revenue_at b)))

-- E is a signed word of 64 bits
unfoldable pub bad_fuel : (E T M : ℕ) → Bool
bad_fuel E T M =
    not (within 64 highest_e E) || ltb highest_t T || ltb M lowest_fuel_multiplier || ltb highest_fuel_multiplier M

unfoldable pub fuel_penalty_answer : (E T M : ℕ) → Answer
fuel_penalty_answer E T M =
    answer false (bad_fuel E T M) (fuel_penalty M (positive_part 64 E) (negative_part 64 E) T)

-- both days are in the calendar
unfoldable pub fuel_day_answer : (d e : ℕ) → Answer
fuel_day_answer d e = answer false (leb calendar_days d || leb calendar_days e) (bit (fuel_day_counts d e))

unfoldable pub period_of_answer : (d : ℕ) → Answer
period_of_answer d = answer false (leb calendar_days d) (period_of d)

-- k is how many periods the window looks back
unfoldable pub period_answer : (k p q : ℕ) → Answer
period_answer k p q =
    answer false (ltb k fewest_periods_back || ltb most_periods_back k) (bit (period_counts k p q))
