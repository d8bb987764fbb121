use mathlib.Core.Bool.{true, false, ◌&&◌}
use mathlib.Core.Path.{◌≡◌}
use borrow.Author.Rules.{rules}
use native.Mathlib.Omega.{arith}
use lib.Dec.{eqb}
use Rattle.binary.proofs.Implies.{and_l}
use Rattle.casefile.specs.Decode.{events_in}
use Rattle.casefile.specs.StageRead.{event_at}
use Rattle.default_bids.specs.StageFigures.{make_up_by}
use Rattle.default_bids.proofs.MakeUpBounds.{megawatts_fine, make_up_most}
use Rattle.default_bids.proofs.make_up.event_make_up.Goals as goal

-- it is none
other : (c : goal.Else-kind-component) → let a = c.args in
    (eqb ((events_in a.case.format a.case.events.now).kind a.i) 4 && eqb ((events_in a.case.format a.case.events.now).component a.i) 0) ≡ false
unfolding event_at
other c = rw c.event_at-event.ensures at c.if-kind-component.false

found : (c : goal.After-make_up) → let a = c.args in
    c.make_up.result ≡ make_up_by a.case.format a.case.events.now a.i a.reference a.correct a.mitigated
unfolding make_up_by event_at
found c =
    let energy : let a = c.args in
    (eqb ((events_in a.case.format a.case.events.now).kind a.i) 4 && eqb ((events_in a.case.format a.case.events.now).component a.i) 0) ≡ true = rw c.event_at-event.ensures at c.if-kind-component.true in
    rw (c.make_up.ensures, c.sum_tenths-tenths.ensures.0, c.event_cells.ensures.0, energy)

pub sum_tenths-tenths-requires : goal.sum_tenths-tenths-requires
unfolding make_up_by event_at
sum_tenths-tenths-requires c =
    let energy : let a = c.args in
    (eqb ((events_in a.case.format a.case.events.now).kind a.i) 4 && eqb ((events_in a.case.format a.case.events.now).component a.i) 0) ≡ true = rw c.event_at-event.ensures at c.if-kind-component.true in (
      search rules,
      λ h l. rw c.event_cells.ensures.0
          (megawatts_fine c.args.case.format c.args.case.events.now c.args.i c.requires.1 c.requires.0
          (and_l (eqb ((events_in c.args.case.format c.args.case.events.now).kind c.args.i) 4) _ energy) h l),
    )

pub make_up-requires : goal.make_up-requires
unfolding make_up_by
make_up-requires c = omega (arith, c.sum_tenths-tenths.ensures.1)

pub returns-then-kind-component : goal.returns-then-kind-component
unfolding make_up_by
returns-then-kind-component c =
    (found c, rw (found c) (make_up_most c.args.case.format c.args.case.events.now c.args.i _ _ _ c.requires.1 c.requires.0))

pub returns : goal.returns
unfolding make_up_by
returns c = (rw (other c), omega arith)
