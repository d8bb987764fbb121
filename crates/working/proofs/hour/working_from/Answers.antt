use Rattle.working.specs.Working.{working_from}
use Rattle.working.proofs.hour.working_from.Goals as goal

pub returns : goal.returns
unfolding working_from
returns c = rw (c.choose-2.ensures, c.choose.ensures, c.decrease-down.ensures, c.increase-up.ensures, c.comparisons_for-comparisons.ensures)
