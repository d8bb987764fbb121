use Rattle.line.specs.OpenLine.{percent_line}
use Rattle.line.proofs.open_line.percent_line.Goals as goal

pub returns : goal.returns
unfolding percent_line
returns c = rw c.product.ensures.0
