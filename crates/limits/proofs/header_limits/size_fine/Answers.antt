use mathlib.Core.Path.{refl}
use Rattle.limits.specs.Refusal.{size_fine}
use Rattle.limits.proofs.header_limits.size_fine.Goals as goal

pub returns : goal.returns
unfolding size_fine
returns c = refl
