use Rattle.hour_masks.specs.StageHours.{either_over}
use Rattle.hour_masks.proofs.JoinLaws.{or_mask}
use Rattle.hour_masks.proofs.megawatt_hours.either_over.Goals as goal

pub returns : goal.returns
unfolding either_over
returns c = rw (c.hours_over-own.ensures, c.sums_over-group_sum.ensures) (or_mask _ _ _)
