use Rattle.casefile.specs.Decode.{format_in}
use Rattle.casefile.proofs.header.format_of.Goals as goal

pub returns : goal.returns
unfolding format_in
returns c = rw c.load.ensures
