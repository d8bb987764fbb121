use Rattle.std.proofs.Common.{◌≡◌}
use Rattle.binary.proofs.BoundedLaws.{all_none, all_more}
use Rattle.binary.proofs.bounded.all_to.Goals as goal

pub loop-i-init : goal.loop-i-init
loop-i-init g c = λ p h. all_none p

pub loop-i-preserved : goal.loop-i-preserved
loop-i-preserved g c = λ p h.
    let e : c.test-all.result ≡ p c.loop-i.i = h _ _ c.loop-i-test.true c.test-all.ensures in
    rw (all_more, c.loop-i.invariant p h, e)
