use mathlib.Core.Path.{refl}
use Rattle.make_up_terms.specs.MakeUpWorking.{refused_make_up}
use Rattle.make_up_terms.proofs.make_up_working.refused_make_up.Goals as goal

pub returns : goal.returns
unfolding refused_make_up
returns c = refl
