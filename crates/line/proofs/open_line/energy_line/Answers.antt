use mathlib.Core.Path.{sym, ◌∙◌}
use Rattle.line.specs.OpenLine.{energy_line}
use Rattle.line.proofs.OpenLaws.{clause_hours}
use Rattle.line.proofs.open_line.energy_line.Goals as goal

pub constrained_line-requires : goal.constrained_line-requires
unfolding energy_line
constrained_line-requires c = clause_hours _ _ _ (sym c.clause_asked.ensures ∙ c.if-clause_asked.true)

pub returns-then-clause_asked : goal.returns-then-clause_asked
unfolding energy_line
returns-then-clause_asked c =
    let e = sym c.clause_asked.ensures ∙ c.if-clause_asked.true in
    rw (c.min.ensures, c.constrained_line.ensures, c.lower_line-lower.ensures, e)

pub returns : goal.returns
unfolding energy_line
returns c =
    let e = sym c.clause_asked.ensures ∙ c.if-clause_asked.false in
    rw (c.lower_line-lower.ensures, e)
