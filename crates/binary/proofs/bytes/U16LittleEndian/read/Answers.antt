use Rattle.binary.proofs.ByteLaws.{value_add, value_one}
use Rattle.binary.proofs.bytes.U16LittleEndian.read.Goals as goal

pub returns : goal.returns
returns c = simp (c.from-2.ensures, c.from.ensures, c.load-high.ensures, c.load-low.ensures, value_add 1 1, value_one)
