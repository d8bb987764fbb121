-- What a smaller public call answers (docs/RULES.md, C1 to C3): a refusal's number and no figure, or a figure.
use Rattle.std.specs.Prelude.{ℕ, Bool, cond, not, eqb, ⊤, Result, Ok, Err}
use Rattle.calls.specs.declared.answers.Refusal.{Refusal}
use Rattle.calls.specs.declared.answers.TimesFailed.{TimesFailed}

pub data Answer : Type 0 where
  refused : (number : ℕ) → Answer
  given : (figure : ℕ) → Answer

-- a test as a figure
unfoldable pub bit : Bool → ℕ
bit b = cond b 1 0

-- first 7 for a reference out of its component's range, then 10 for any other argument out of its range
unfoldable pub answer : (seven ten : Bool) (figure : ℕ) → Answer
answer seven ten figure = cond seven (refused 7) (cond ten (refused 10) (given figure))

-- the number of each refusal, and the refusal of each number
abbrev pub number_of : Refusal → ℕ
number_of refusal = refusal.number

abbrev pub refusal_of : ℕ → Refusal
refusal_of n = record { number = n }

abbrev pub refused_if : Bool → Refusal → Result ⊤ Refusal
refused_if out_of_range refusal = cond out_of_range (Err refusal) (Ok tt)

-- the number and the figure of each result, and the result of each number and figure
unfoldable pub verdict_answer : Result Bool Refusal → Answer
verdict_answer (Err refusal) = refused (number_of refusal)
verdict_answer (Ok fails) = given (bit fails)

unfoldable pub verdict_of : Answer → Result Bool Refusal
verdict_of (refused number) = Err (refusal_of number)
verdict_of (given figure) = Ok (not (eqb figure 0))

unfoldable pub figure_answer : Result ℕ Refusal → Answer
figure_answer (Err refusal) = refused (number_of refusal)
figure_answer (Ok value) = given value

unfoldable pub figure_of : Answer → Result ℕ Refusal
figure_of (refused number) = Err (refusal_of number)
figure_of (given value) = Ok value

-- the three verdicts of the time test
pub data TimeAnswer : Type 0 where
  times_refused : (number : ℕ) → TimeAnswer
  times_given : (start_up minimum_run minimum_down : Bool) → TimeAnswer

unfoldable pub time_answered : (ten start_up minimum_run minimum_down : Bool) → TimeAnswer
time_answered ten x y z = cond ten (times_refused 10) (times_given x y z)

unfoldable pub time_answer : Result TimesFailed Refusal → TimeAnswer
time_answer (Err refusal) = times_refused (number_of refusal)
time_answer (Ok fails) = times_given fails.start_up fails.minimum_run fails.minimum_down

unfoldable pub times_of : TimeAnswer → Result TimesFailed Refusal
times_of (times_refused number) = Err (refusal_of number)
times_of (times_given x y z) = Ok (record { start_up = x; minimum_run = y; minimum_down = z })
