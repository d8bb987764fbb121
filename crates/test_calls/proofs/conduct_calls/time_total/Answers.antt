use Rattle.test_calls.specs.ConductCalls.{increase_total}
use Rattle.test_calls.proofs.conduct_calls.time_total.Goals as goal

pub returns : goal.returns
unfolding increase_total
returns c = rw (c.positive_part-c.ensures, c.positive_part-b.ensures, c.positive_part-a.ensures)
