use mathlib.Core.Path.{sym, ap, ◌∙◌}
use Rattle.limits.specs.Numbers.{number_in}
use Rattle.limits.proofs.NumberLaws.{answered_number}
use Rattle.api.proofs.case.attachment_h_check.Goals as goal

pub returns-in-Ok : goal.returns-in-Ok
returns-in-Ok c =
    let a = c.args in
    ap (λ x. number_in x) (sym c.in-Ok.is ∙ c.check.ensures) ∙ answered_number a.file.now a.correction.now a.rows_length

pub returns-in-Err : goal.returns-in-Err
returns-in-Err c =
    let a = c.args in
    c.from.ensures ∙ ap (λ x. number_in x) (sym c.in-Err.is ∙ c.check.ensures) ∙ answered_number a.file.now a.correction.now a.rows_length
