use Rattle.line.specs.LineCall.{bad_line}
use Rattle.line.proofs.line_call.bad_line.Goals as goal

pub returns : goal.returns
unfolding bad_line
returns c = rw (c.bad_unit-unit.ensures, c.bad_reference-level.ensures)
