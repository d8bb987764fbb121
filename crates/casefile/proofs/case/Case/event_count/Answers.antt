use Rattle.casefile.specs.Decode.{events_in}
use Rattle.casefile.proofs.case.Case.event_count.Goals as goal

pub returns : goal.returns
unfolding events_in
returns c = rw (c.count_of.ensures, c.widths_of-w.ensures.0)
