use borrow.Author.Tests.{le-leb, lt-leb}
use Rattle.tariff.specs.Comparisons.{second_bid_comparison}
use Rattle.tariff.proofs.comparisons.second_bid_comparison.Goals as goal

pub returns-then-component-le1 : goal.returns-then-component-le1
unfolding second_bid_comparison
returns-then-component-le1 c = rw (c.constrained_comparison.ensures, le-leb _ _ c.if-component-le1.true)

pub returns-then-component : goal.returns-then-component
unfolding second_bid_comparison
returns-then-component c = rw (lt-leb _ _ c.if-component-le1.false, c.if-component.true)

pub returns : goal.returns
unfolding second_bid_comparison
returns c = rw (c.no_comparison.ensures, lt-leb _ _ c.if-component-le1.false, c.if-component.false)
