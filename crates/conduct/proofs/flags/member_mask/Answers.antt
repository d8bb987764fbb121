use borrow.Author.Tests.{ne_eqb}
use Rattle.casefile.specs.StageRead.{event_at}
use Rattle.conduct.specs.StageFlags.{member_mask}
use Rattle.conduct.proofs.flags.member_mask.Goals as goal

pub returns-then-kind-eq3 : goal.returns-then-kind-eq3
unfolding member_mask event_at
returns-then-kind-eq3 c = let k = rw c.event_at-event.ensures at c.if-kind-eq3.true in rw k

pub returns : goal.returns
unfolding member_mask event_at
returns c = let k = rw c.event_at-event.ensures at c.if-kind-eq3.false in rw (ne_eqb _ 3 k) c.event_mask.ensures
