use mathlib.Core.Path.{sym, ◌∙◌}
use Rattle.limits.proofs.RangeLaws.{numbers_in_order}
use Rattle.record_check.proofs.record_limits.records_refusal.Goals as goal

pub references_fine-requires : goal.references_fine-requires
references_fine-requires c = numbers_in_order _ _ (sym c.units_fine.ensures ∙ c.if-not-units_fine.false)

pub correction_fine-requires : goal.correction_fine-requires
correction_fine-requires c = numbers_in_order _ _ (sym c.units_fine.ensures ∙ c.if-not-units_fine.false)
