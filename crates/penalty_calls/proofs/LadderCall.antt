-- The call of the multiplier answers just where the promise about the ladder holds.
use Prim.Native.Nat.{ℕ}
use mathlib.Core.Bool.{Bool, true, false, cond}
use mathlib.Core.Path.{◌≡◌, refl, ap, ◌∙◌}
use native.Mathlib.Omega.{arith}
use borrow.Author.Tests.{le-ltb, ltb-false}
use lib.Dec.{ltb, lit≤}
use Rattle.binary.proofs.Implies.{or_l, or_r}
use Rattle.tariff.specs.Ladder.{InstancesInRange}
use Rattle.tariff.specs.Ranges.{fewest_instances, most_instances}
use Rattle.tariff.specs.SanctionRules.{ladder}
use Rattle.tariff.proofs.LadderLaws.{ladder_as_printed}
use Rattle.calls.specs.Answers.{refused, given, answer}
use Rattle.penalty_calls.specs.SanctionCalls.{bad_instances, multiplier_answer, AnsweredAsPrinted}

-- what is not refused is in range, and the other way round
fine_instances : (n k : ℕ) → bad_instances n k ≡ false → InstancesInRange n k
unfolding bad_instances
fine_instances n k e =
    let few : ltb k fewest_instances ≡ false = search (or_l, or_r) in
    let most : ltb most_instances n ≡ false = search (or_l, or_r) in
    let within : ltb n k ≡ false = search (or_l, or_r) in
    (ltb-false _ _ few, ltb-false _ _ within, ltb-false _ _ most)

in_range_fine : (n k : ℕ) → InstancesInRange n k → bad_instances n k ≡ false
unfolding bad_instances
in_range_fine n k r = rw (le-ltb n fewest_instances (omega arith), le-ltb most_instances n r.2, le-ltb k fewest_instances r.0, le-ltb n k r.1) refl

answers : (n k : ℕ) → InstancesInRange n k → multiplier_answer n k ≡ given (ladder n k)
unfolding multiplier_answer answer
answers n k r = rw (in_range_fine n k r) refl

refuses : (n k : ℕ) → (¬ InstancesInRange n k) → multiplier_answer n k ≡ refused 10
unfolding multiplier_answer answer
refuses n k out = go (bad_instances n k) (λ e. out (fine_instances n k e))
  where
    go : (b : Bool) → (b ≡ false → ⊥) → cond b (refused 10) (given (ladder n k)) ≡ refused 10
    go true f = refl
    go false f = absurd (f refl)

pub answered_as_printed : (n3 n2 : ℕ) → AnsweredAsPrinted n3 n2
answered_as_printed n k =
    record {
      in_range = λ r. (answers n k r, ladder_as_printed n k r);
      out_of_range = refuses n k;
    }

-- the last numbers that are answered, and the first that are too many
pub last_answered : multiplier_answer 456 456 ≡ given 6
last_answered =
    let a = (answered_as_printed 456 456).in_range (lit≤ tt, lit≤ tt, lit≤ tt) in a.0 ∙ ap given (a.1.fourth (lit≤ tt))

pub first_refused : multiplier_answer 457 457 ≡ refused 10
first_refused = (answered_as_printed 457 457).out_of_range (λ r. omega (arith, r.2))
