use mathlib.Core.Path.{sym, ◌∙◌}
use Rattle.calls.specs.Answers.{answer, verdict_of}
use Rattle.calls.proofs.AnswerLaws.{refused_by}
use Rattle.test_calls.specs.ConductCalls.{dispatch_answer}
use Rattle.test_calls.proofs.conduct_calls.dispatch_fails.Goals as goal

pub returns-in_err-refuse_if : goal.returns-in_err-refuse_if
unfolding dispatch_answer answer verdict_of
returns-in_err-refuse_if c =
    let e = refused_by _ _ _ _ (sym c.refuse_if.ensures ∙ c.in_err-refuse_if.was) c.from_residual.ensures.1 in
    rw (e.1, e.0)
