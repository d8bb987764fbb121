use mathlib.Core.Bool.{true, false, ◌&&◌}
use mathlib.Core.Path.{◌≡◌}
use lib.Dec.{eqb}
use Rattle.binary.proofs.Implies.{and_l}
use Rattle.casefile.specs.Decode.{events_in}
use Rattle.casefile.specs.StageRead.{event_at}
use Rattle.default_bids.specs.StageFigures.{MegawattsFine}
use Rattle.default_bids.proofs.MakeUpBounds.{megawatts_fine}
use Rattle.make_up_terms.specs.StageMakeUp.{terms_by}
use Rattle.make_up_terms.proofs.make_up_working.make_up_terms.Goals as goal

-- it is none
other : (c : goal.Else-kind-component) → let a = c.args in
    (eqb ((events_in a.case.format a.case.events.now).kind a.i) 4 && eqb ((events_in a.case.format a.case.events.now).component a.i) 0) ≡ false
unfolding event_at
other c = rw c.event_at-event.ensures at c.if-kind-component.false

small : (c : goal.After-event_cells-cells) → MegawattsFine c.event_cells-cells.result.now
unfolding event_at
small c h l =
    let energy : let a = c.args in
    (eqb ((events_in a.case.format a.case.events.now).kind a.i) 4 && eqb ((events_in a.case.format a.case.events.now).component a.i) 0) ≡ true = rw c.event_at-event.ensures at c.if-kind-component.true in
    rw c.event_cells-cells.ensures.0
    (megawatts_fine c.args.case.format c.args.case.events.now c.args.i c.requires.1 c.requires.0
    (and_l (eqb ((events_in c.args.case.format c.args.case.events.now).kind c.args.i) 4) _ energy) h l)

pub sum_tenths-sum-requires : goal.sum_tenths-sum-requires
unfolding terms_by
sum_tenths-sum-requires c = (c.event_cells-cells.ensures.1, small c)

pub hour_make_ups-hours-requires : goal.hour_make_ups-hours-requires
unfolding terms_by event_at
hour_make_ups-hours-requires c =
    let energy : let a = c.args in
    (eqb ((events_in a.case.format a.case.events.now).kind a.i) 4 && eqb ((events_in a.case.format a.case.events.now).component a.i) 0) ≡ true = rw c.event_at-event.ensures at c.if-kind-component.true in
    let small : MegawattsFine c.event_cells-cells.result.now = λ h l. rw c.event_cells-cells.ensures.0
    (megawatts_fine c.args.case.format c.args.case.events.now c.args.i c.requires.1 c.requires.0
    (and_l (eqb ((events_in c.args.case.format c.args.case.events.now).kind c.args.i) 4) _ energy) h l) in
    (c.event_cells-cells.ensures.1, small)

pub returns-then-kind-component : goal.returns-then-kind-component
unfolding terms_by event_at
returns-then-kind-component c =
    let energy : let a = c.args in
    (eqb ((events_in a.case.format a.case.events.now).kind a.i) 4 && eqb ((events_in a.case.format a.case.events.now).component a.i) 0) ≡ true = rw c.event_at-event.ensures at c.if-kind-component.true in
    rw (energy, c.hour_make_ups-hours.ensures, c.sum_tenths-sum.ensures.0, c.event_cells-cells.ensures.0)

pub returns : goal.returns
unfolding terms_by
returns c = rw (other c)
