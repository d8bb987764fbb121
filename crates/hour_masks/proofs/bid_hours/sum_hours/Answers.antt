use Rattle.line.specs.OpenLine.{is_time}
use Rattle.hour_masks.proofs.HourLaws.{sum_mask, no_sum}
use Rattle.hour_masks.proofs.bid_hours.sum_hours.Goals as goal

pub returns-then-component : goal.returns-then-component
unfolding is_time
returns-then-component c = sum_mask _ _ _ _ _ _ c.if-component.true (rw c.capped.ensures at c.hours_above-longer.ensures) c.sums_over-over.ensures

pub returns : goal.returns
unfolding is_time
returns c = no_sum _ _ _ _ c.if-component.false
