use Rattle.binary.proofs.ByteLaws.{value_add}
use Rattle.binary.proofs.bytes.U64LittleEndian.read.Goals as goal

pub returns : goal.returns
returns c = simp (c.from-2.ensures, c.from.ensures, c.load-high.ensures, c.load-low.ensures, value_add 4 4)
