use Rattle.hour_masks.proofs.HourLaws.{dispatch_mask}
use Rattle.hour_masks.proofs.megawatt_hours.dispatch_hours.Goals as goal

pub returns : goal.returns
returns c = dispatch_mask _ _ _ _ _ _ (rw c.group_limit.ensures at c.over_shares.ensures)
