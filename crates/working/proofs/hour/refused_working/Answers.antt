use mathlib.Core.Path.{refl}
use Rattle.working.specs.Working.{refused_working}
use Rattle.working.proofs.hour.refused_working.Goals as goal

pub returns : goal.returns
unfolding refused_working
returns c = refl
