use borrow.Author.Rules.{rules}
use Rattle.casefile.specs.Decode.{events_in}
use Rattle.casefile.specs.StageRead.{event_at}
use Rattle.casefile.proofs.RecordLaws.{fits}
use Rattle.casefile.proofs.case.Case.event_at.Goals as goal

pub number_at-requires : goal.number_at-requires
unfolding events_in event_at
number_at-requires c = rw c.widths_of-w.ensures.0 (let f = fits c.args.self.format in search rules)

pub returns : goal.returns
unfolding events_in event_at
returns c =
    rw (
      c.load-9.ensures,
      c.load-8.ensures,
      c.load-7.ensures,
      c.load-6.ensures,
      c.load-5.ensures,
      c.load-4.ensures,
      c.load-3.ensures,
      c.number_at.ensures,
      c.load-2.ensures,
      c.load.ensures,
      c.event_record-event.ensures.0,
      c.widths_of-w.ensures.0,
    )
