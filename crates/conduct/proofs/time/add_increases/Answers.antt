use mathlib.Core.Path.{◌≡◌}
use native.Mathlib.Omega.{arith}
use lib.ListN.{length-set}
use Rattle.casefile.specs.Layout.{most_hours}
use Rattle.conduct.proofs.SumLaws.{row_more}
use Rattle.conduct.proofs.TimeLaws.{counted_none, counted_is, increases_added}
use Rattle.conduct.proofs.time.add_increases.Goals as goal

pub returns-then-not-counts : goal.returns-then-not-counts
returns-then-not-counts c = counted_none _ _ _ _ _ c.if-not-counts.true

pub loop-h-preserved : goal.loop-h-preserved
loop-h-preserved c =
    let l = c.loop-h in
    let d =
    counted_is _ _ _ _ _ _ _ _ c.if-not-counts.false c.cell_at-cell.ensures
    c.increase.ensures c.from-d.ensures in
    (simp length-set l.invariant.0, row_more _ _ _ _ _ (omega arith) d l.invariant.1)

pub returns : goal.returns
returns c =
    let l = c.loop-h in
    let e : l.h ≡ most_hours = omega arith in
    let s = c.args in
    increases_added s.case.format s.case.events.now _ s.j _ _ _ (rw (c.event_cells-cells.ensures.0, e) at l.invariant.1)
