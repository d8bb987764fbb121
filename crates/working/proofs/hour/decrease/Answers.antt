use Rattle.working.specs.Working.{decrease}
use Rattle.working.proofs.hour.decrease.Goals as goal

pub returns : goal.returns
unfolding decrease
returns c = rw (c.saturating_sub.ensures, c.positive_part-a.ensures, c.negative_part-below.ensures)
