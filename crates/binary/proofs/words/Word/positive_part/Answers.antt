use Rattle.binary.specs.Word.{positive_part}
use Rattle.binary.proofs.words.Word.positive_part.Goals as goal

pub returns-then-is_low : goal.returns-then-is_low
unfolding positive_part
returns-then-is_low g c = rw (← c.is_low.ensures, c.if-is_low.true)

pub returns-else-is_low : goal.returns-else-is_low
unfolding positive_part
returns-else-is_low g c = rw (← c.is_low.ensures, c.if-is_low.false, c.zero.ensures)
