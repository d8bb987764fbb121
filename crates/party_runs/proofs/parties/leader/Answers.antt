use mathlib.Core.Path.{◌≡◌, ◌∙◌}
use borrow.Author.Tests.{eq-eqb, ne_eqb}
use native.Mathlib.Omega.{arith}
use Rattle.binary.proofs.ListLaws.{from_found, from_next, from_end}
use Rattle.party_runs.specs.StageParties.{same_group}
use Rattle.party_runs.proofs.parties.leader.Goals as goal

pub returns-then-groups-j : goal.returns-then-groups-j
unfolding same_group
returns-then-groups-j c =
    from_found _ _ _ _ c.loop-j.invariant c.loop-j-test.true (eq-eqb _ _ c.if-groups-j.true)

pub loop-j-preserved : goal.loop-j-preserved
unfolding same_group
loop-j-preserved c =
    from_next _ _ _ _ c.loop-j.invariant c.loop-j-test.true (ne_eqb _ _ c.if-groups-j.false)

pub returns : goal.returns
unfolding same_group
returns c =
    let e : c.args.i ≡ c.loop-j.j = omega arith in
    e ∙ from_end _ _ _ _ c.loop-j.invariant c.loop-j-test.false
