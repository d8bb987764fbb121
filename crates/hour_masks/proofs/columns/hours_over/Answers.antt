use Rattle.std.proofs.Common.{rules}
use Rattle.hour_masks.specs.StageColumns.{over}
use Rattle.hour_masks.proofs.columns.hours_over.Goals as goal

pub returns : goal.returns
unfolding over
returns c = c.mask_to.ensures.value (over c.args.column.now c.args.line) (λ h r l p. search rules)
