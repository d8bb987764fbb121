use Rattle.std.proofs.Common.{rules}
use Rattle.hour_masks.specs.StageColumns.{above}
use Rattle.hour_masks.proofs.columns.hours_above.Goals as goal

pub returns : goal.returns
unfolding above
returns c = c.mask_to.ensures.value (above c.args.column.now c.args.line) (λ h r l p. search rules)
