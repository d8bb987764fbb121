use Rattle.sanctions.specs.StageTables.{hour_energy}
use Rattle.sanctions.proofs.fuel.hour_energy.Goals as goal

pub returns : goal.returns
unfolding hour_energy
returns c = (
  rw (
    c.choose-gain.ensures,
    c.product.ensures.0,
    c.positive_part.ensures,
    c.bit_of-flagged.ensures,
    c.cell_at-cell.ensures,
  ),
  rw (
    c.choose-loss.ensures,
    c.product-2.ensures.0,
    c.negative_part.ensures,
    c.bit_of-flagged.ensures,
    c.cell_at-cell.ensures,
  ),
)
