use mathlib.Core.Path.{refl}
use Rattle.penalty_terms.specs.PenaltyWorking.{refused_penalty}
use Rattle.penalty_terms.proofs.penalty_working.refused_penalty.Goals as goal

pub returns : goal.returns
unfolding refused_penalty
returns c = refl
