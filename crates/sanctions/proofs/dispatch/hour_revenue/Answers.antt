use Rattle.sanctions.specs.StageTables.{hour_revenue}
use Rattle.sanctions.proofs.dispatch.hour_revenue.Goals as goal

pub returns : goal.returns
unfolding hour_revenue
returns c = rw (c.choose.ensures, c.bit_of-flagged.ensures, c.cell_at-cell.ensures)
