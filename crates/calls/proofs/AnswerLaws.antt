-- No two results give one answer, and a call's answer is that of the result it returns.
use mathlib.Core.Bool.{Bool, true, false}
use mathlib.Core.Path.{◌≡◌, refl, sym, ◌∙◌, ap}
use Rattle.std.specs.Prelude.{ℕ, ⊤, Result, Ok, Err, IsErrAnd}
use Rattle.calls.specs.declared.answers.Refusal.{Refusal}
use Rattle.calls.specs.declared.answers.TheConstants.Refusal.{REFERENCE, ARGUMENT, LINE}
use Rattle.calls.specs.declared.answers.TimesFailed.{TimesFailed}
use Rattle.calls.specs.Answers.{Answer, refused, given, bit, answer, refusal_of, refused_if, verdict_answer, verdict_of, figure_answer, figure_of, TimeAnswer, times_refused, times_given, time_answer, times_of}

-- ---- numbers

pub reference_is_7 : REFERENCE ≡ refusal_of 7
reference_is_7 = refl

pub argument_is_10 : ARGUMENT ≡ refusal_of 10
argument_is_10 = refl

pub line_is_16 : LINE ≡ refusal_of 16
line_is_16 = refl

-- ---- verdicts

pub verdict_back : (v : Result Bool Refusal) → verdict_of (verdict_answer v) ≡ v
unfolding verdict_answer verdict_of bit
verdict_back (Err r) = refl
verdict_back (Ok true) = refl
verdict_back (Ok false) = refl

pub verdicts_apart : (v w : Result Bool Refusal) → verdict_answer v ≡ verdict_answer w → v ≡ w
verdicts_apart v w e = sym (verdict_back v) ∙ ap verdict_of e ∙ verdict_back w

pub verdict_answered : (seven ten test : Bool)
    → verdict_answer (verdict_of (answer seven ten (bit test))) ≡ answer seven ten (bit test)
unfolding bit answer verdict_answer verdict_of
verdict_answered true ten test = refl
verdict_answered false true test = refl
verdict_answered false false true = refl
verdict_answered false false false = refl

-- ---- figures

pub figure_back : (f : Result ℕ Refusal) → figure_of (figure_answer f) ≡ f
unfolding figure_answer figure_of
figure_back (Err r) = refl
figure_back (Ok x) = refl

pub figures_apart : (f g : Result ℕ Refusal) → figure_answer f ≡ figure_answer g → f ≡ g
figures_apart f g e = sym (figure_back f) ∙ ap figure_of e ∙ figure_back g

pub figure_answered : (a : Answer) → figure_answer (figure_of a) ≡ a
unfolding figure_answer figure_of
figure_answered (refused n) = refl
figure_answered (given x) = refl

-- ---- the time test

pub times_back : (t : Result TimesFailed Refusal) → times_of (time_answer t) ≡ t
unfolding time_answer times_of
times_back (Err r) = refl
times_back (Ok fails) = refl

pub times_apart : (t u : Result TimesFailed Refusal) → time_answer t ≡ time_answer u → t ≡ u
times_apart t u e = sym (times_back t) ∙ ap times_of e ∙ times_back u

pub times_answered : (a : TimeAnswer) → time_answer (times_of a) ≡ a
unfolding time_answer times_of
times_answered (times_refused n) = refl
times_answered (times_given x y z) = refl

-- ---- the exits of a check

-- what is returned from a check that refuses
pub refused_by : {A : Type 0} (out : Bool) (r e : Refusal) (x : Result A Refusal) → refused_if out r ≡ Err e → IsErrAnd x (λ y. y ≡ e)
    → (out ≡ true) × (x ≡ Err r)
refused_by true r e (Err y) p q = (refl, cc (p, q))
refused_by true r e (Ok a) p q = absurd q
refused_by false r e x p q = absurd (cc p)

pub ok_if : (out : Bool) (r : Refusal) (u : ⊤) → refused_if out r ≡ Ok u → out ≡ false
ok_if true r u p = absurd (cc p)
ok_if false r u p = refl

-- ---- the last exit

pub verdict_given : (test : Bool) → verdict_of (given (bit test)) ≡ Ok test
unfolding verdict_of bit
verdict_given true = refl
verdict_given false = refl
