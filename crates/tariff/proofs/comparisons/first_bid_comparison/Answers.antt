use borrow.Author.Tests.{le-leb, lt-leb, ne_eqb}
use Rattle.tariff.specs.Comparisons.{first_bid_comparison}
use Rattle.tariff.proofs.comparisons.first_bid_comparison.Goals as goal

pub returns-then-component-le2 : goal.returns-then-component-le2
unfolding first_bid_comparison
returns-then-component-le2 c = rw (c.lower_comparison.ensures, le-leb _ _ c.if-component-le2.true, c.of-t.ensures)

pub returns-then-component-eq3 : goal.returns-then-component-eq3
unfolding first_bid_comparison
returns-then-component-eq3 c = rw (c.compared.ensures, c.percent_of-percent.ensures.0, c.increase-d.ensures, c.of-t.ensures, c.if-component-eq3.true)

pub returns-then-component-le6 : goal.returns-then-component-le6
unfolding first_bid_comparison
returns-then-component-le6 c = rw (c.compared-then-component-le6.ensures, le-leb _ _ c.if-component-le6.true, ne_eqb _ _ c.if-component-eq3.false, lt-leb _ _ c.if-component-le2.false, c.increase-d.ensures, c.of-t.ensures)

pub returns-then-component-eq7 : goal.returns-then-component-eq7
unfolding first_bid_comparison
returns-then-component-eq7 c = rw (c.compared-then-component-eq7.ensures, c.percent_of-percent.ensures.0, c.positive_part-a.ensures, c.of-t.ensures, c.if-component-eq7.true)

pub returns-then-component-eq8 : goal.returns-then-component-eq8
unfolding first_bid_comparison
returns-then-component-eq8 c = rw (c.maximum_comparison.ensures, c.if-component-eq8.true)

pub returns : goal.returns
unfolding first_bid_comparison
returns c = rw (c.no_comparison.ensures, ne_eqb _ _ c.if-component-eq8.false, ne_eqb _ _ c.if-component-eq7.false, lt-leb _ _ c.if-component-le6.false, ne_eqb _ _ c.if-component-eq3.false, lt-leb _ _ c.if-component-le2.false)
