use Rattle.casefile.specs.Decode.{past_in}
use Rattle.casefile.proofs.case.Case.entry_count.Goals as goal

pub returns : goal.returns
unfolding past_in
returns c = rw c.count_of.ensures
