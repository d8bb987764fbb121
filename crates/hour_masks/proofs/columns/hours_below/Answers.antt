use Rattle.std.proofs.Common.{rules}
use Rattle.hour_masks.specs.StageColumns.{below}
use Rattle.hour_masks.proofs.columns.hours_below.Goals as goal

pub returns : goal.returns
unfolding below
returns c = c.mask_to.ensures.value (below c.args.column.now c.args.line) (λ h r l p. search rules)
