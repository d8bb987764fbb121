use native.Mathlib.Omega.{arith}
use Rattle.binary.proofs.Implies.{or_r}
use mathlib.Core.Path.{sym, ◌∙◌}
use Rattle.calls.specs.Answers.{answer, figure_of}
use Rattle.calls.proofs.AnswerLaws.{refused_by, ok_if}
use Rattle.penalty_calls.specs.SanctionCalls.{bad_multiplier, withheld_penalty_answer}
use Rattle.penalty_calls.proofs.sanction_calls.withheld_penalty.Goals as goal

pub returns-in_err-refuse_if : goal.returns-in_err-refuse_if
unfolding bad_multiplier withheld_penalty_answer answer figure_of
returns-in_err-refuse_if c =
    let e = refused_by _ _ _ _ (sym c.refuse_if.ensures ∙ c.in_err-refuse_if.was) c.from_residual.ensures.1 in
    rw (e.1, ← c.bad_hours-hours.ensures, e.0)

pub amount_of-requires : goal.amount_of-requires
unfolding bad_multiplier
amount_of-requires c =
    let fine = ok_if _ _ _ (sym c.refuse_if.ensures ∙ c.in_ok-refuse_if.was) in
    sym c.bad_hours-hours.ensures ∙ or_r (bad_multiplier c.args.multiplier) c.bad_hours-hours.result fine

pub withheld_penalty-requires : goal.withheld_penalty-requires
withheld_penalty-requires c = omega (arith, c.amount_of.ensures.1)

pub returns : goal.returns
unfolding bad_multiplier withheld_penalty_answer answer figure_of
returns c =
    let fine = ok_if _ _ _ (sym c.refuse_if.ensures ∙ c.in_ok-refuse_if.was) in
    rw (c.withheld_penalty.ensures, c.amount_of.ensures.0, ← c.bad_hours-hours.ensures, fine)
