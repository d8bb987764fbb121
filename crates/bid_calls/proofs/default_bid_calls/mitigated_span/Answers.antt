use mathlib.Core.Path.{sym, ◌∙◌}
use Rattle.calls.specs.Answers.{answer, figure_of}
use Rattle.calls.proofs.AnswerLaws.{refused_by, ok_if}
use Rattle.bid_calls.specs.DefaultBidCalls.{span_answer}
use Rattle.bid_calls.proofs.default_bid_calls.mitigated_span.Goals as goal

pub returns-in_err-refuse_if : goal.returns-in_err-refuse_if
unfolding span_answer answer figure_of
returns-in_err-refuse_if c =
    let e = refused_by _ _ _ _ (sym c.refuse_if.ensures ∙ c.in_err-refuse_if.was) c.from_residual.ensures.1 in
    rw (e.1, e.0)

pub returns : goal.returns
unfolding span_answer answer figure_of
returns c =
    let fine = ok_if _ _ _ (sym c.refuse_if.ensures ∙ c.in_ok-refuse_if.was) in
    rw (c.from.ensures, c.span_mask-mask.ensures, fine)
