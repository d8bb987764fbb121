use borrow.Author.Tests.{eq-eqb, ne_eqb}
use Rattle.penalty_terms.specs.StageTerms.{added_in}
use Rattle.penalty_terms.proofs.hour_terms.added_of.Goals as goal

pub returns-then-kind-k : goal.returns-then-kind-k
unfolding added_in
returns-then-kind-k c = rw (c.added.ensures, eq-eqb _ _ c.if-kind-k.true)

pub returns : goal.returns
unfolding added_in
returns c = rw (ne_eqb _ _ c.if-kind-k.false)
