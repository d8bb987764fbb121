use native.Mathlib.Omega.{arith}
use mathlib.Core.Path.{sym, ◌∙◌}
use Rattle.calls.specs.Answers.{answer, figure_of}
use Rattle.calls.proofs.AnswerLaws.{refused_by, ok_if}
use Rattle.penalty_calls.specs.SanctionCalls.{dispatch_penalty_answer}
use Rattle.penalty_calls.proofs.sanction_calls.dispatch_penalty.Goals as goal

pub returns-in_err-refuse_if : goal.returns-in_err-refuse_if
unfolding dispatch_penalty_answer answer figure_of
returns-in_err-refuse_if c =
    let e = refused_by _ _ _ _ (sym c.refuse_if.ensures ∙ c.in_err-refuse_if.was) c.from_residual.ensures.1 in
    rw (e.1, ← c.bad_revenues.ensures, e.0)

pub revenue_of-requires : goal.revenue_of-requires
revenue_of-requires c =
    let fine = ok_if _ _ _ (sym c.refuse_if.ensures ∙ c.in_ok-refuse_if.was) in
    sym c.bad_revenues.ensures ∙ fine

pub dispatch_penalty-requires : goal.dispatch_penalty-requires
dispatch_penalty-requires c = omega (arith, c.revenue_of.ensures.1)

pub returns : goal.returns
unfolding dispatch_penalty_answer answer figure_of
returns c =
    let fine = ok_if _ _ _ (sym c.refuse_if.ensures ∙ c.in_ok-refuse_if.was) in
    rw (c.dispatch_penalty.ensures, c.revenue_of.ensures.0, ← c.bad_revenues.ensures, fine)
