use mathlib.Core.Path.{sym, ◌∙◌}
use Rattle.calls.specs.Answers.{answer, verdict_of}
use Rattle.calls.proofs.AnswerLaws.{refused_by, ok_if, verdict_given}
use Rattle.test_calls.specs.ConductCalls.{withheld_answer}
use Rattle.test_calls.proofs.conduct_calls.withheld_fails.Goals as goal

pub returns-in_err-refuse_if : goal.returns-in_err-refuse_if
unfolding withheld_answer answer verdict_of
returns-in_err-refuse_if c =
    let e = refused_by _ _ _ _ (sym c.refuse_if.ensures ∙ c.in_err-refuse_if.was) c.from_residual.ensures.1 in
    rw (e.1, e.0)

pub returns : goal.returns
unfolding withheld_answer answer
returns c =
    let fine = ok_if _ _ _ (sym c.refuse_if.ensures ∙ c.in_ok-refuse_if.was) in
    rw (c.withheld_test.ensures, fine, verdict_given _)
