use mathlib.Core.Path.{refl}
use Rattle.line.specs.OpenLine.{clause_asked}
use Rattle.line.proofs.open_line.clause_asked.Goals as goal

pub returns : goal.returns
unfolding clause_asked
returns c = refl
