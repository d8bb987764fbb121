use borrow.Author.Tests.{ne_eqb}
use Rattle.casefile.specs.StageRead.{event_at}
use Rattle.conduct.specs.StageFlags.{bid_mask}
use Rattle.conduct.proofs.flags.bid_mask.Goals as goal

pub returns-then-kind-ne4 : goal.returns-then-kind-ne4
unfolding bid_mask event_at
returns-then-kind-ne4 c = let k = rw c.event_at-event.ensures at c.if-kind-ne4.true in rw (ne_eqb _ 4 k)

pub returns : goal.returns
unfolding bid_mask event_at
returns c = let k = rw c.event_at-event.ensures at c.if-kind-ne4.false in rw k c.event_mask.ensures
