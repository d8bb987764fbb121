use mathlib.Core.Path.{◌≡◌, ◌∙◌}
use native.Mathlib.Omega.{arith}
use lib.ListN.{length-set}
use Rattle.casefile.specs.Layout.{most_hours}
use Rattle.casefile.specs.StageRead.{event_at}
use Rattle.conduct.proofs.SumLaws.{row_more, uncounted, figure_counts, figures_added}
use Rattle.conduct.proofs.sums.add_event.Goals as goal

pub returns-then-not-counts : goal.returns-then-not-counts
unfolding event_at
returns-then-not-counts c = uncounted _ _ _ c.if-not-counts.true

pub loop-h-preserved : goal.loop-h-preserved
unfolding event_at
loop-h-preserved c =
    let l = c.loop-h in
    let figure = c.from-figure.ensures ∙ c.party_figure.ensures in (
      simp length-set l.invariant.0,
      row_more _ _ _ _ _ (omega arith) (figure_counts _ _ _ _ c.if-not-counts.false figure) l.invariant.1,
    )

pub returns : goal.returns
unfolding event_at
returns c =
    let l = c.loop-h in
    let k = c.event_cells-cells.ensures.0 in
    let v = c.event_at-event.ensures in
    let s = c.args in
    let e : l.h ≡ most_hours = omega arith in
    figures_added s.case.format s.case.events.now s.j _ _ _ (rw (k, v, e) at l.invariant.1)
