use borrow.Author.Tests.{le-leb, lt-leb, eq-eqb, ne_eqb}
use Rattle.line.specs.OpenLine.{is_time, open_line}
use Rattle.line.proofs.open_line.open_line.Goals as goal

pub returns-then-component-le1 : goal.returns-then-component-le1
unfolding is_time open_line
returns-then-component-le1 c = rw (c.energy_line.ensures, le-leb _ _ c.if-component-le1.true, c.of-t.ensures)

pub returns-then-component-eq2 : goal.returns-then-component-eq2
unfolding is_time open_line
returns-then-component-eq2 c = rw (c.lower_line.ensures, lt-leb _ _ c.if-component-le1.false, eq-eqb _ _ c.if-component-eq2.true, c.of-t.ensures)

pub returns-then-component : goal.returns-then-component
unfolding is_time open_line
returns-then-component c = rw (c.time_line.ensures, lt-leb _ _ c.if-component-le1.false, ne_eqb _ _ c.if-component-eq2.false, c.if-component.true, c.of-t.ensures)

pub returns-then-component-eq8 : goal.returns-then-component-eq8
unfolding is_time open_line
returns-then-component-eq8 c = rw (c.maximum_line.ensures, lt-leb _ _ c.if-component-le1.false, ne_eqb _ _ c.if-component-eq2.false, c.if-component.false, eq-eqb _ _ c.if-component-eq8.true, c.of-t.ensures)

pub returns : goal.returns
unfolding is_time open_line
returns c = rw (c.percent_line.ensures, lt-leb _ _ c.if-component-le1.false, ne_eqb _ _ c.if-component-eq2.false, c.if-component.false, ne_eqb _ _ c.if-component-eq8.false, c.of-t.ensures)
