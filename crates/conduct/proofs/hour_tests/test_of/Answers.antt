use mathlib.Core.Path.{◌≡◌}
use borrow.Author.Tests.{ne_eqb}
use Rattle.casefile.specs.Decode.{events_in}
use Rattle.casefile.specs.StageRead.{unit_at, event_at}
use Rattle.conduct.specs.StageMasks.{test_of}
use Rattle.conduct.proofs.hour_tests.test_of.Goals as goal

pub returns-then-kind-eq4 : goal.returns-then-kind-eq4
unfolding test_of unit_at event_at
returns-then-kind-eq4 c =
    let kind_is : let a = c.args in c.event_at-event.result.kind ≡ (events_in a.case.format a.case.events.now).kind a.i = rw c.event_at-event.ensures in
    rw (← kind_is, c.bid_of.ensures, c.if-kind-eq4.true)

pub returns-then-kind-eq1 : goal.returns-then-kind-eq1
unfolding test_of unit_at event_at
returns-then-kind-eq1 c =
    let kind_is : let a = c.args in c.event_at-event.result.kind ≡ (events_in a.case.format a.case.events.now).kind a.i = rw c.event_at-event.ensures in
    rw (← kind_is, c.if-kind-eq1.true, c.unit_at-unit.ensures)

pub returns-then-kind-eq2 : goal.returns-then-kind-eq2
unfolding test_of unit_at event_at
returns-then-kind-eq2 c =
    let kind_is : let a = c.args in c.event_at-event.result.kind ≡ (events_in a.case.format a.case.events.now).kind a.i = rw c.event_at-event.ensures in
    rw (← kind_is, c.if-kind-eq2.true, c.unit_at-unit.ensures)

pub returns-then-kind-eq3 : goal.returns-then-kind-eq3
unfolding test_of unit_at event_at
returns-then-kind-eq3 c =
    let kind_is : let a = c.args in c.event_at-event.result.kind ≡ (events_in a.case.format a.case.events.now).kind a.i = rw c.event_at-event.ensures in
    rw (← kind_is, c.if-kind-eq3.true)

pub returns : goal.returns
unfolding test_of unit_at event_at
returns c =
    let kind_is : let a = c.args in c.event_at-event.result.kind ≡ (events_in a.case.format a.case.events.now).kind a.i = rw c.event_at-event.ensures in
    rw (
      ← kind_is,
      ne_eqb _ 1 c.if-kind-eq1.false,
      ne_eqb _ 2 c.if-kind-eq2.false,
      ne_eqb _ 3 c.if-kind-eq3.false,
      ne_eqb _ 4 c.if-kind-eq4.false,
    )
