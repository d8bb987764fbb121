use native.Mathlib.Omega.{arith}
use Rattle.line.specs.OpenLine.{lower_line}
use Rattle.line.proofs.open_line.lower_line.Goals as goal

pub returns-then-below-above : goal.returns-then-below-above
unfolding lower_line
returns-then-below-above c = omega (arith, c.product.ensures.0, c.min-lower.ensures, c.saturating_sub-below.ensures)

pub returns-else-below-above : goal.returns-else-below-above
unfolding lower_line
returns-else-below-above c = omega (arith, c.product.ensures.0, c.min-lower.ensures, c.saturating_sub-below.ensures)
