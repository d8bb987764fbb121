use mathlib.Core.Path.{sym, ◌∙◌}
use Rattle.calls.specs.Answers.{time_answered, times_of}
use Rattle.calls.proofs.AnswerLaws.{refused_by, ok_if}
use Rattle.test_calls.specs.ConductCalls.{times_answer}
use Rattle.test_calls.proofs.conduct_calls.times_fail.Goals as goal

pub returns-in_err-refuse_if : goal.returns-in_err-refuse_if
unfolding times_answer time_answered times_of
returns-in_err-refuse_if c =
    let e = refused_by _ _ _ _ (sym c.refuse_if.ensures ∙ c.in_err-refuse_if.was) c.from_residual.ensures.1 in
    rw (e.1, ← c.is_within-x.ensures, ← c.is_within-y.ensures, ← c.is_within-z.ensures, e.0)

pub returns : goal.returns
unfolding times_answer time_answered times_of
returns c =
    let fine = ok_if _ _ _ (sym c.refuse_if.ensures ∙ c.in_ok-refuse_if.was) in
    rw (
      c.time_fails.ensures,
      c.time_fails-2.ensures,
      c.time_fails-3.ensures,
      c.time_total-total.ensures,
      ← c.is_within-x.ensures,
      ← c.is_within-y.ensures,
      ← c.is_within-z.ensures,
      fine,
    )
