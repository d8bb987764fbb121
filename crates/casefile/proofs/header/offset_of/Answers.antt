use Rattle.casefile.specs.Decode.{offset_of}
use Rattle.casefile.proofs.header.offset_of.Goals as goal

pub returns : goal.returns
unfolding offset_of
returns c = rw c.load.ensures
