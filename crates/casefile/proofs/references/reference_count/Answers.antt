use Rattle.casefile.specs.Decode.{references_in}
use Rattle.casefile.proofs.references.reference_count.Goals as goal

pub returns : goal.returns
unfolding references_in
returns c = rw (c.count_of.ensures, c.widths_of-w.ensures.0)
