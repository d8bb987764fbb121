use Rattle.binary.specs.Word.{negative_part}
use Rattle.binary.proofs.words.Word.negative_part.Goals as goal

pub returns-then-is_low : goal.returns-then-is_low
unfolding negative_part
returns-then-is_low g c = rw (← c.is_low.ensures, c.if-is_low.true, c.zero.ensures)

pub returns-else-is_low : goal.returns-else-is_low
unfolding negative_part
returns-else-is_low g c = rw (← c.is_low.ensures, c.if-is_low.false, c.minus.ensures)
