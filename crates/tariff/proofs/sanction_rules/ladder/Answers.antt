use mathlib.Core.Bool.{true, ◌&&◌}
use mathlib.Core.Path.{◌≡◌}
use lib.Dec.{leb}
use borrow.Author.Tests.{eq-eqb, ne_eqb, le-leb, lt-leb}
use Rattle.tariff.specs.SanctionRules.{ladder}
use Rattle.tariff.proofs.sanction_rules.ladder.Goals as goal

pub returns-then-n3-eq1 : goal.returns-then-n3-eq1
unfolding ladder
returns-then-n3-eq1 c = simp (eq-eqb _ _ c.if-n3-eq1.true)

pub returns-then-n3-eq2 : goal.returns-then-n3-eq2
unfolding ladder
returns-then-n3-eq2 c = simp (ne_eqb _ _ c.if-n3-eq1.false, eq-eqb _ _ c.if-n3-eq2.true)

pub returns-then-n3-n2 : goal.returns-then-n3-n2
unfolding ladder
returns-then-n3-n2 c =
    let s = c.args in
    let third : (leb 3 s.n3 && leb s.n2 3) ≡ true = c.if-n3-n2.true in
    simp (ne_eqb _ _ c.if-n3-eq1.false, ne_eqb _ _ c.if-n3-eq2.false, third)

pub returns-then-n2-ge4 : goal.returns-then-n2-ge4
unfolding ladder
returns-then-n2-ge4 c = simp (ne_eqb _ _ c.if-n3-eq1.false, ne_eqb _ _ c.if-n3-eq2.false, c.if-n3-n2.false, le-leb _ _ c.if-n2-ge4.true)

pub returns : goal.returns
unfolding ladder
returns c = simp (ne_eqb _ _ c.if-n3-eq1.false, ne_eqb _ _ c.if-n3-eq2.false, c.if-n3-n2.false, lt-leb _ _ c.if-n2-ge4.false)
