use borrow.Author.Tests.{eq-eqb, ne_eqb}
use Rattle.penalty_terms.specs.StageTerms.{loss_in}
use Rattle.penalty_terms.proofs.hour_terms.loss_at.Goals as goal

pub returns-then-kind-eq3 : goal.returns-then-kind-eq3
unfolding loss_in
returns-then-kind-eq3 c = rw (c.hour_energy-hour.ensures.1, eq-eqb _ 3 c.if-kind-eq3.true)

pub returns : goal.returns
unfolding loss_in
returns c = rw (ne_eqb _ 3 c.if-kind-eq3.false)
