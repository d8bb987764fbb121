use Rattle.sanctions.specs.StageTables.{hour_energy}
use Rattle.sanctions.proofs.withheld.hour_amount.Goals as goal

pub returns : goal.returns
unfolding hour_energy
returns c = rw (c.choose.ensures, c.product.ensures.0, c.positive_part.ensures, c.bit_of-flagged.ensures, c.cell_at-cell.ensures)
