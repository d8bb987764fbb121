use Rattle.conduct.specs.StageFlags.{mask_in}
use Rattle.conduct.proofs.flags.event_mask.Goals as goal

pub returns : goal.returns
unfolding mask_in
returns c = rw (c.failing_hours.ensures, c.event_cells.ensures.0, c.tight_hours-tight.ensures, c.test_of-test.ensures)
