use mathlib.Core.Path.{refl}
use Rattle.casefile.specs.Lookup.{reads_correct}
use Rattle.event_check.proofs.event_limits.reads_correct.Goals as goal

pub returns : goal.returns
unfolding reads_correct
returns c = refl
