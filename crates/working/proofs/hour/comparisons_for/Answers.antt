use borrow.Author.Tests.{eq-eqb, ne_eqb}
use Rattle.working.specs.Working.{comparisons_for}
use Rattle.working.proofs.hour.comparisons_for.Goals as goal

pub returns-then-kind-eq1 : goal.returns-then-kind-eq1
unfolding comparisons_for
returns-then-kind-eq1 c = rw (c.withheld_comparisons.ensures, eq-eqb _ _ c.if-kind-eq1.true)

pub returns-then-kind-eq2 : goal.returns-then-kind-eq2
unfolding comparisons_for
returns-then-kind-eq2 c = rw (c.dispatch_comparisons.ensures, eq-eqb _ _ c.if-kind-eq2.true, ne_eqb _ _ c.if-kind-eq1.false)

pub returns-then-kind-eq3 : goal.returns-then-kind-eq3
unfolding comparisons_for
returns-then-kind-eq3 c = rw (c.fuel_comparisons.ensures, eq-eqb _ _ c.if-kind-eq3.true, ne_eqb _ _ c.if-kind-eq2.false, ne_eqb _ _ c.if-kind-eq1.false)

pub returns-then-kind-eq4 : goal.returns-then-kind-eq4
unfolding comparisons_for
returns-then-kind-eq4 c = rw (c.bid_comparisons.ensures, eq-eqb _ _ c.if-kind-eq4.true, ne_eqb _ _ c.if-kind-eq3.false, ne_eqb _ _ c.if-kind-eq2.false, ne_eqb _ _ c.if-kind-eq1.false)

pub returns : goal.returns
unfolding comparisons_for
returns c = rw (c.no_comparisons.ensures, ne_eqb _ _ c.if-kind-eq4.false, ne_eqb _ _ c.if-kind-eq3.false, ne_eqb _ _ c.if-kind-eq2.false, ne_eqb _ _ c.if-kind-eq1.false)
