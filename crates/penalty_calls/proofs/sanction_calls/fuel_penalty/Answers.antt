use native.Mathlib.Omega.{arith}
use Rattle.penalty_calls.proofs.ArgumentLaws.{FuelArguments, fuel_arguments}
use mathlib.Core.Path.{sym, ◌∙◌}
use Rattle.calls.specs.Answers.{answer, figure_of}
use Rattle.calls.proofs.AnswerLaws.{refused_by, ok_if}
use Rattle.penalty_calls.specs.SanctionCalls.{bad_fuel, fuel_penalty_answer}
use Rattle.penalty_calls.proofs.sanction_calls.fuel_penalty.Goals as goal

pub returns-in_err-refuse_if : goal.returns-in_err-refuse_if
unfolding bad_fuel fuel_penalty_answer answer figure_of
returns-in_err-refuse_if c =
    let e = refused_by _ _ _ _ (sym c.refuse_if.ensures ∙ c.in_err-refuse_if.was) c.from_residual.ensures.1 in
    rw (e.1, ← c.is_within-energy.ensures, e.0)

pub fuel_penalty-requires : goal.fuel_penalty-requires
unfolding bad_fuel
fuel_penalty-requires c =
    let a = c.args in
    let fine = ok_if _ _ _ (sym c.refuse_if.ensures ∙ c.in_ok-refuse_if.was) in
    let q : FuelArguments a.e a.t a.m = fuel_arguments a.e a.t a.m (rw (← c.is_within-energy.ensures) fine) in
    omega (arith, q, c.negative_part-loss.ensures, c.positive_part-gain.ensures)

pub returns : goal.returns
unfolding bad_fuel fuel_penalty_answer answer figure_of
returns c =
    let fine = ok_if _ _ _ (sym c.refuse_if.ensures ∙ c.in_ok-refuse_if.was) in
    rw (c.fuel_penalty.ensures, c.negative_part-loss.ensures, c.positive_part-gain.ensures, ← c.is_within-energy.ensures, fine)
