use Rattle.std.proofs.Common.{◌≡◌}
use Rattle.binary.proofs.BoundedLaws.{any_none, any_more}
use Rattle.binary.proofs.bounded.any_to.Goals as goal

pub loop-i-init : goal.loop-i-init
loop-i-init g c = λ p h. any_none p

pub loop-i-preserved : goal.loop-i-preserved
loop-i-preserved g c = λ p h.
    let e : c.test-any.result ≡ p c.loop-i.i = h _ _ c.loop-i-test.true c.test-any.ensures in
    rw (any_more, c.loop-i.invariant p h, e)
