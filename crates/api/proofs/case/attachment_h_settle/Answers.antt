use mathlib.Core.Path.{◌∙◌, ap, sym}
use Rattle.settlement.specs.Settled.{answer_of_settlement}
use Rattle.settlement.proofs.SettleLaws.{told_answer}
use Rattle.api.specs.Exported.{exported_settlement}
use Rattle.api.proofs.case.attachment_h_settle.Goals as goal

pub returns-in-Err : goal.returns-in-Err
returns-in-Err c =
    let s = c.settle in record { value = rw c.from.ensures (ap (λ x. exported_settlement (answer_of_settlement x)) (sym c.in-Err.is) ∙ ap (λ x. exported_settlement (answer_of_settlement x)) s.ensures.value ∙ ap exported_settlement (told_answer _ _ _)); rows_after = s.ensures.rows_after }

pub returns-in-Ok : goal.returns-in-Ok
returns-in-Ok c =
    let s = c.settle in record { value = ap (λ x. exported_settlement (answer_of_settlement x)) (sym c.in-Ok.is) ∙ ap (λ x. exported_settlement (answer_of_settlement x)) s.ensures.value ∙ ap exported_settlement (told_answer _ _ _); rows_after = s.ensures.rows_after }
