use Rattle.binary.specs.Word.{within}
use Rattle.binary.proofs.words.Word.is_within.Goals as goal

pub returns : goal.returns
unfolding within
returns g c = rw (c.is_at_most.ensures, c.is_at_most-2.ensures, c.negative_part-down.ensures, c.positive_part-up.ensures)
