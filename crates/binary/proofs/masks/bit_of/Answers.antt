use mathlib.Core.Path.{refl, sym}
use Rattle.binary.specs.Bounded.{bit_of}
use Rattle.binary.proofs.MaskLaws.{bit_past}
use Rattle.binary.proofs.masks.bit_of.Goals as goal

pub returns : goal.returns
unfolding bit_of
returns c = sym (bit_past 32 c.args.mask c.args.i c.ranges.mask.fits c.if-i-lt32.false)

pub returns-then-i-lt32 : goal.returns-then-i-lt32
unfolding bit_of
returns-then-i-lt32 c = refl
