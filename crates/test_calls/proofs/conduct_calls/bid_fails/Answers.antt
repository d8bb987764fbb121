use mathlib.Core.Path.{sym, ◌∙◌}
use Rattle.calls.specs.Answers.{answer, verdict_of}
use Rattle.calls.proofs.AnswerLaws.{refused_by, ok_if, verdict_given}
use Rattle.test_calls.specs.ConductCalls.{bid_answer}
use Rattle.test_calls.proofs.conduct_calls.bid_fails.Goals as goal

pub returns-in_err-refuse_if : goal.returns-in_err-refuse_if
unfolding bid_answer answer verdict_of
returns-in_err-refuse_if c =
    let e = refused_by _ _ _ _ (sym c.refuse_if.ensures ∙ c.in_err-refuse_if.was) c.from_residual.ensures.1 in
    rw (e.1, ← c.bad_reference-level.ensures, e.0)

pub returns-in_err-refuse_if-2 : goal.returns-in_err-refuse_if-2
unfolding bid_answer answer verdict_of
returns-in_err-refuse_if-2 c =
    let fine = ok_if _ _ _ (sym c.refuse_if.ensures ∙ c.in_ok-refuse_if.was) in
    let e = refused_by _ _ _ _ (sym c.refuse_if-2.ensures ∙ c.in_err-refuse_if-2.was) c.from_residual-in_err-refuse_if-2.ensures.1 in
    rw (e.1, ← c.bad_reference-level.ensures, fine, ← c.bad_bid-range.ensures, ← c.bad_unit-unit.ensures, e.0)

pub returns : goal.returns
unfolding bid_answer answer
returns c =
    let fine = ok_if _ _ _ (sym c.refuse_if.ensures ∙ c.in_ok-refuse_if.was) in
    let f = ok_if _ _ _ (sym c.refuse_if-2.ensures ∙ c.in_ok-refuse_if-2.was) in
    rw (c.bid_test.ensures, ← c.bad_reference-level.ensures, fine, ← c.bad_bid-range.ensures, ← c.bad_unit-unit.ensures, f, verdict_given _)
