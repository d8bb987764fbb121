use Rattle.casefile.proofs.layout.old_numbers.Goals as goal

pub returns : goal.returns
returns c = rw c.widths_of-w.ensures.0
