use borrow.Author.Tests.{leb-false}
use Rattle.binary.proofs.Implies.{or_l}
use Rattle.calendar.specs.Months.{calendar_days}
use mathlib.Core.Path.{sym, ◌∙◌}
use Rattle.calls.specs.Answers.{answer, verdict_of}
use Rattle.calls.proofs.AnswerLaws.{refused_by, ok_if, verdict_given}
use Rattle.penalty_calls.specs.SanctionCalls.{fuel_day_answer}
use Rattle.penalty_calls.proofs.sanction_calls.fuel_day_counts.Goals as goal

pub returns-in_err-refuse_if : goal.returns-in_err-refuse_if
unfolding fuel_day_answer answer verdict_of
returns-in_err-refuse_if c =
    let e = refused_by _ _ _ _ (sym c.refuse_if.ensures ∙ c.in_err-refuse_if.was) c.from_residual.ensures.1 in
    rw (e.1, e.0)

pub fuel_day_counts-requires : goal.fuel_day_counts-requires
fuel_day_counts-requires c =
    let fine = ok_if _ _ _ (sym c.refuse_if.ensures ∙ c.in_ok-refuse_if.was) in
    leb-false calendar_days c.args.d (or_l _ _ fine)

pub returns : goal.returns
unfolding fuel_day_answer answer
returns c =
    let fine = ok_if _ _ _ (sym c.refuse_if.ensures ∙ c.in_ok-refuse_if.was) in
    rw (c.fuel_day_counts.ensures, fine, verdict_given _)
