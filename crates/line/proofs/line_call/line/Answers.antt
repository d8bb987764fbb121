use mathlib.Core.Path.{sym, ◌∙◌}
use Rattle.calls.specs.Answers.{figure_of}
use Rattle.calls.proofs.AnswerLaws.{refused_by, ok_if}
use Rattle.line.specs.LineCall.{line_answer}
use Rattle.line.proofs.LineLaws.{answer_promised}
use Rattle.line.proofs.line_call.line.Goals as goal

pub returns-in_err-refuse_if : goal.returns-in_err-refuse_if
unfolding line_answer figure_of
returns-in_err-refuse_if c =
    let e = refused_by _ _ _ _ (sym c.refuse_if.ensures ∙ c.in_err-refuse_if.was) c.from_residual.ensures.1 in
    record { value = rw (e.1, ← c.bad_line-bad.ensures, e.0); promised = answer_promised _ _ _ _ _ _ _ (rw (e.1, ← c.bad_line-bad.ensures, e.0)) }

pub returns : goal.returns
unfolding line_answer figure_of
returns c =
    let fine = ok_if _ _ _ (sym c.refuse_if.ensures ∙ c.in_ok-refuse_if.was) in
    record { value = rw (c.cut_line.ensures, ← c.bad_line-bad.ensures, fine); promised = answer_promised _ _ _ _ _ _ _ (rw (c.cut_line.ensures, ← c.bad_line-bad.ensures, fine)) }
