use mathlib.Core.Path.{◌∙◌}
use native.Mathlib.Omega.{arith}
use borrow.Author.Tests.{ne_eqb}
use Rattle.hour_masks.proofs.HourLaws.{past_mask, below_mask, bid_joined, bid_loose}
use Rattle.hour_masks.proofs.bid_hours.bid_hours.Goals as goal

pub returns-then-component-gt-HIGHEST_COMPONENT : goal.returns-then-component-gt-HIGHEST_COMPONENT
returns-then-component-gt-HIGHEST_COMPONENT c = past_mask _ _ _ _ _ (omega arith)

pub returns-then-component-eq8 : goal.returns-then-component-eq8
returns-then-component-eq8 c = (rw c.line_in-far.ensures at c.hours_below.ensures) ∙ below_mask _ _ _ _ _ c.if-component-eq8.true

pub returns-then-tight-eq0 : goal.returns-then-tight-eq0
returns-then-tight-eq0 c =
    bid_loose _ _ _ _ _ _ _ (omega arith) (ne_eqb _ 8 c.if-component-eq8.false) c.if-tight-eq0.true
    (rw c.line_in-far.ensures at c.hours_above.ensures) c.sum_hours.ensures

pub returns : goal.returns
returns c =
    bid_joined _ _ _ _ _ _ _ _ (omega arith) (ne_eqb _ 8 c.if-component-eq8.false)
    (rw c.line_in-far.ensures at c.hours_above.ensures) c.sum_hours.ensures
    (rw c.line_in.ensures at c.hours_above-near.ensures)
