use borrow.Author.Tests.{lt-ltb, le-ltb}
use Rattle.casefile.specs.Decode.{units_in}
use Rattle.casefile.specs.StageRead.{unit_at, event_at}
use Rattle.limits.specs.Refusal.{amount_fine}
use Rattle.event_check.specs.StageFound.{event_place}
use Rattle.event_check.proofs.EventLaws.{amounts_hours}
use Rattle.event_check.proofs.event_limits.amount_fine.Goals as goal

pub returns-then-event-gt2 : goal.returns-then-event-gt2
unfolding amount_fine event_place unit_at event_at
returns-then-event-gt2 c = let k = rw c.event_at-event.ensures at (lt-ltb _ _ c.if-event-gt2.true) in rw k

pub returns : goal.returns
unfolding amount_fine event_place unit_at event_at
returns c =
    let k = rw c.event_at-event.ensures at (le-ltb _ _ c.if-event-gt2.false) in
    rw (
      k,
      ← amounts_hours c.args.case.format (units_in c.args.case.format c.args.case.units.now) c.args.case.events.now c.args.i,
      c.amounts_within.ensures,
      c.event_cells.ensures.0,
      c.unit_at-unit.ensures,
      c.requires.place_found,
    )
