use Rattle.hour_masks.proofs.HourLaws.{withheld_mask}
use Rattle.hour_masks.proofs.megawatt_hours.withheld_hours.Goals as goal

pub returns : goal.returns
returns c = withheld_mask _ _ _ _ _ _ _ c.over_shares.ensures
