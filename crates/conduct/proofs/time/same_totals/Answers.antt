use Rattle.conduct.specs.StageTime.{same_totals}
use Rattle.conduct.proofs.time.same_totals.Goals as goal

pub returns : goal.returns
unfolding same_totals
returns c = rw (c.time_bid-last.ensures, c.place_before.ensures, c.time_bid-own.ensures)
