use mathlib.Core.Path.{sym, ◌∙◌}
use Rattle.calls.specs.Answers.{answer, figure_of}
use Rattle.calls.proofs.AnswerLaws.{refused_by, ok_if}
use Rattle.bid_calls.specs.DefaultBidCalls.{make_up_answer}
use Rattle.bid_calls.proofs.default_bid_calls.make_up.Goals as goal

pub returns-in_err-refuse_if : goal.returns-in_err-refuse_if
unfolding make_up_answer answer figure_of
returns-in_err-refuse_if c =
    let e = refused_by _ _ _ _ (sym c.refuse_if.ensures ∙ c.in_err-refuse_if.was) c.from_residual.ensures.1 in
    rw (e.1, ← c.bad_reference-own.ensures, ← c.bad_reference-other.ensures, e.0)

pub returns-in_err-refuse_if-2 : goal.returns-in_err-refuse_if-2
unfolding make_up_answer answer figure_of
returns-in_err-refuse_if-2 c =
    let fine = ok_if _ _ _ (sym c.refuse_if.ensures ∙ c.in_ok-refuse_if.was) in
    let e = refused_by _ _ _ _ (sym c.refuse_if-2.ensures ∙ c.in_err-refuse_if-2.was) c.from_residual-in_err-refuse_if-2.ensures.1 in
    rw (e.1, ← c.bad_reference-own.ensures, ← c.bad_reference-other.ensures, fine, ← c.bad_bid-range.ensures, ← c.is_within-priced.ensures, e.0)

pub returns : goal.returns
unfolding make_up_answer answer figure_of
returns c =
    let level = ok_if _ _ _ (sym c.refuse_if.ensures ∙ c.in_ok-refuse_if.was) in
    let fine = ok_if _ _ _ (sym c.refuse_if-2.ensures ∙ c.in_ok-refuse_if-2.was) in
    rw (c.make_up.ensures, c.hour_make_up-tenths.ensures.0, ← c.bad_reference-own.ensures, ← c.bad_reference-other.ensures, level, ← c.bad_bid-range.ensures, ← c.is_within-priced.ensures, fine)
