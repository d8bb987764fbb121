use Rattle.line.specs.OpenLine.{maximum_line}
use Rattle.line.proofs.open_line.maximum_line.Goals as goal

pub returns : goal.returns
unfolding maximum_line
returns c = rw c.product.ensures.0
