use borrow.Author.Rules.{rules}
use Rattle.casefile.specs.Decode.{units_in}
use Rattle.casefile.specs.StageRead.{unit_at}
use Rattle.casefile.proofs.RecordLaws.{fits}
use Rattle.casefile.proofs.case.Case.unit_at.Goals as goal

pub number_at-requires : goal.number_at-requires
unfolding units_in unit_at
number_at-requires c = rw c.widths_of-w.ensures.0 (let f = fits c.args.self.format in search rules)

pub returns : goal.returns
unfolding units_in unit_at
returns c =
    rw (
      c.load-6.ensures,
      c.load-5.ensures,
      c.load-4.ensures,
      c.load-3.ensures,
      c.load-2.ensures,
      c.load.ensures,
      c.number_at.ensures,
      c.unit_record-unit.ensures.0,
      c.widths_of-w.ensures.0,
    )
