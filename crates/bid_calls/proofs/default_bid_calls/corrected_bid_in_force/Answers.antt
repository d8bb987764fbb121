use mathlib.Core.Path.{sym, ◌∙◌}
use Rattle.tariff.specs.DefaultBidRules.{corrected_in_force}
use Rattle.calls.specs.Answers.{answer, figure_of}
use Rattle.calls.proofs.AnswerLaws.{refused_by, ok_if}
use Rattle.bid_calls.specs.DefaultBidCalls.{corrected_in_force_answer}
use Rattle.bid_calls.proofs.default_bid_calls.corrected_bid_in_force.Goals as goal

pub returns-in_err-refuse_if : goal.returns-in_err-refuse_if
unfolding corrected_in_force_answer answer figure_of
returns-in_err-refuse_if c =
    let e = refused_by _ _ _ _ (sym c.refuse_if.ensures ∙ c.in_err-refuse_if.was) c.from_residual.ensures.1 in
    rw (e.1, ← c.bad_reference-own.ensures, ← c.bad_reference-other.ensures, e.0)

pub returns-in_err-refuse_if-2 : goal.returns-in_err-refuse_if-2
unfolding corrected_in_force_answer answer figure_of
returns-in_err-refuse_if-2 c =
    let fine = ok_if _ _ _ (sym c.refuse_if.ensures ∙ c.in_ok-refuse_if.was) in
    let e = refused_by _ _ _ _ (sym c.refuse_if-2.ensures ∙ c.in_err-refuse_if-2.was) c.from_residual-in_err-refuse_if-2.ensures.1 in
    rw (e.1, ← c.bad_reference-own.ensures, ← c.bad_reference-other.ensures, fine, ← c.bad_bid-range.ensures, ← c.bad_unit-unit.ensures, e.0)

pub returns : goal.returns
unfolding corrected_in_force_answer corrected_in_force answer figure_of
returns c =
    let level = ok_if _ _ _ (sym c.refuse_if.ensures ∙ c.in_ok-refuse_if.was) in
    let fine = ok_if _ _ _ (sym c.refuse_if-2.ensures ∙ c.in_ok-refuse_if-2.was) in
    rw (c.from.ensures, c.choose-word.ensures, c.corrected_bid-corrected.ensures, c.bid_test-fails.ensures, ← c.bad_reference-own.ensures, ← c.bad_reference-other.ensures, level, ← c.bad_bid-range.ensures, ← c.bad_unit-unit.ensures, fine)
