use mathlib.Core.Path.{◌≡◌}
use native.Mathlib.Omega.{arith}
use Rattle.binary.proofs.BoundedLaws.{first_none, first_more}
use Rattle.tariff.proofs.default_bid_rules.first_hour.Goals as goal

pub loop-h-init : goal.loop-h-init
loop-h-init c = first_none _

pub loop-h-preserved : goal.loop-h-preserved
loop-h-preserved c = rw (c.choose-first.ensures, c.bit_of-hit.ensures, c.loop-h.invariant, first_more)
