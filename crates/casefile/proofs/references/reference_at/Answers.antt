use borrow.Author.Rules.{rules}
use Rattle.casefile.specs.Decode.{references_in}
use Rattle.casefile.specs.StageRead.{reference_at}
use Rattle.casefile.proofs.RecordLaws.{fits}
use Rattle.casefile.proofs.references.reference_at.Goals as goal

pub number_at-requires : goal.number_at-requires
unfolding references_in reference_at
number_at-requires c = rw c.widths_of-w.ensures.0 (let f = fits c.args.format in search rules)

pub returns : goal.returns
unfolding references_in reference_at
returns c =
    rw (
      c.load-2.ensures,
      c.load.ensures,
      c.number_at.ensures,
      c.reference_record-reference.ensures.0,
      c.widths_of-w.ensures.0,
    )
