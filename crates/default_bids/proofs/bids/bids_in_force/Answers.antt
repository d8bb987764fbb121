use mathlib.Core.Bool.{true, false}
use mathlib.Core.Path.{◌≡◌, ◌∙◌}
use borrow.Author.Tests.{eq-eqb, ne_eqb}
use lib.Dec.{eqb}
use Rattle.casefile.specs.Decode.{events_in}
use Rattle.casefile.specs.StageRead.{event_at}
use Rattle.default_bids.proofs.BidLaws.{bids_none, held_own, held_correct}
use Rattle.default_bids.proofs.bids.bids_in_force.Goals as goal

-- the event is no bid
other : (c : goal.Then-kind-ne4) → let a = c.args in eqb ((events_in a.case.format a.case.events.now).kind a.i) 4 ≡ false
unfolding event_at
other c = rw c.event_at-event.ensures at (ne_eqb _ _ c.if-kind-ne4.true)

pub returns-then-kind-ne4 : goal.returns-then-kind-ne4
unfolding event_at
returns-then-kind-ne4 c =
    let a = c.args in
    bids_none a.case.format a.case.units.now a.case.events.now a.place a.level a.correct a.mitigated a.i (other c)

pub returns-then-restored-mitigated : goal.returns-then-restored-mitigated
unfolding event_at
returns-then-restored-mitigated c =
    let bid : let a = c.args in eqb ((events_in a.case.format a.case.events.now).kind a.i) 4 ≡ true = rw c.event_at-event.ensures at (eq-eqb _ _ c.if-kind-ne4.false) in
    let e = rw (c.restores-restored.ensures, c.event_at-event.ensures) at c.if-restored-mitigated.true in
    c.held_bids.ensures ∙ held_correct _ _ _ _ _ _ _ _ _ bid e c.failing_with-failing.ensures

pub returns : goal.returns
unfolding event_at
returns c =
    let bid : let a = c.args in eqb ((events_in a.case.format a.case.events.now).kind a.i) 4 ≡ true = rw c.event_at-event.ensures at (eq-eqb _ _ c.if-kind-ne4.false) in
    let a = c.args in
    let e = rw (c.restores-restored.ensures, c.event_at-event.ensures) at c.if-restored-mitigated.false in
    c.held_bids-2.ensures ∙ held_own _ _ _ a.place _ a.correct _ _ bid e
