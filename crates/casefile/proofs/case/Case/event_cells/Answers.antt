use native.Mathlib.Omega.{arith}
use lib.ListN.{length-drop}
use Rattle.casefile.specs.Decode.{cells_from}
use Rattle.casefile.proofs.RecordLaws.{rest}
use Rattle.casefile.proofs.case.Case.event_cells.Goals as goal

pub returns : goal.returns
unfolding cells_from
returns c = (rw (rest, c.event_record-event.ensures.0), rw rest (rw length-drop (omega arith)))
