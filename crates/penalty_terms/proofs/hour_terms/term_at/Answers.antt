use borrow.Author.Tests.{eq-eqb, ne_eqb}
use native.Mathlib.Omega.{arith}
use Rattle.sanctions.specs.StageGiven.{SmallAmounts}
use Rattle.sanctions.proofs.TableLaws.{positive_part_holds, hour_small}
use Rattle.penalty_terms.specs.StageTerms.{term_in}
use Rattle.penalty_terms.proofs.TermLaws.{either_kind}
use Rattle.penalty_terms.proofs.hour_terms.term_at.Goals as goal

pub returns-then-kind-eq2 : goal.returns-then-kind-eq2
unfolding term_in
returns-then-kind-eq2 c = (rw (c.hour_revenue.ensures, eq-eqb _ 2 c.if-kind-eq2.true), omega arith)

pub returns-then-kind : goal.returns-then-kind
unfolding term_in
returns-then-kind c =
    let small : SmallAmounts c.args.cells.now = let p = c.requires.small_amounts in either_kind _ _ c.if-kind.true p.0 p.1 in (
      rw (c.hour_amount.ensures, ne_eqb _ 2 c.if-kind-eq2.false, c.if-kind.true),
      rw c.hour_amount.ensures (hour_small _ positive_part_holds c.args.cells.now c.args.mask small c.args.h c.requires.in_range.0),
    )

pub returns : goal.returns
unfolding term_in
returns c = (rw (ne_eqb _ 2 c.if-kind-eq2.false, c.if-kind.false), omega arith)
