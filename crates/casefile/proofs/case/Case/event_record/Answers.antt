use borrow.Author.Rules.{rules}
use Rattle.casefile.specs.Decode.{events_in}
use Rattle.casefile.proofs.case.Case.event_record.Goals as goal

pub record_at-requires : goal.record_at-requires
unfolding events_in
record_at-requires c = rw c.widths_of-w.ensures.0 c.requires

pub returns : goal.returns
unfolding events_in
returns c =
    let r = c.record_at.ensures in
    let w = c.widths_of-w.ensures.0 in
    (rw w at r.0, rw w at r.1, search rules)
