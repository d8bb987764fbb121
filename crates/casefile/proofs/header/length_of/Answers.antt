use Rattle.casefile.specs.Decode.{length_of}
use Rattle.casefile.proofs.header.length_of.Goals as goal

pub returns : goal.returns
unfolding length_of
returns c = rw c.load.ensures
