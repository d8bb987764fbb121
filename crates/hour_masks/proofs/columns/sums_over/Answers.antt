use Rattle.std.proofs.Common.{rules}
use Rattle.hour_masks.specs.StageColumns.{over}
use Rattle.hour_masks.proofs.columns.sums_over.Goals as goal

pub returns : goal.returns
unfolding over
returns c = c.mask_to.ensures.value (over c.args.sums.now c.args.line) (λ h r l p. search rules)
