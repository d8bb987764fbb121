use mathlib.Core.Path.{◌≡◌}
use native.Mathlib.Omega.{arith}
use Rattle.binary.proofs.BoundedLaws.{last_none, last_more}
use Rattle.tariff.proofs.default_bid_rules.last_hour.Goals as goal

pub loop-h-init : goal.loop-h-init
loop-h-init c = last_none _

pub loop-h-preserved : goal.loop-h-preserved
loop-h-preserved c = rw (c.choose-last.ensures, c.bit_of.ensures, c.loop-h.invariant, last_more)
