use Rattle.line.specs.BidLine.{line_of}
use Rattle.line.proofs.line_call.cut_line.Goals as goal

pub returns : goal.returns
unfolding line_of
returns c = rw (c.min.ensures, c.choose-highest.ensures, c.open_line-open.ensures)
