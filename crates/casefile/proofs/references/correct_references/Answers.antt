use Rattle.casefile.specs.Lookup.{correct_references}
use Rattle.casefile.proofs.references.correct_references.Goals as goal

pub returns-then-is_empty : goal.returns-then-is_empty
unfolding correct_references
returns-then-is_empty c = rw (← c.is_empty.ensures, c.if-is_empty.true)

pub returns-else-is_empty : goal.returns-else-is_empty
unfolding correct_references
returns-else-is_empty c = rw (← c.is_empty.ensures, c.if-is_empty.false)
