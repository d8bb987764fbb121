use Prim.Native.Nat.{◌≤◌, ◌<◌}
use native.Mathlib.Omega.{arith}
use borrow.Author.Tests.{lt-ltb, le-ltb}
use Rattle.casefile.specs.Decode.{events_in}
use Rattle.casefile.proofs.RecordLaws.{kind_here}
use Rattle.subtotal.proofs.subtotal_call.is_fuel.Goals as goal

pub event_at-event-requires : goal.event_at-event-requires
event_at-event-requires c = omega (arith, c.if-i-event_count.true, c.event_count.ensures)

pub returns-then-i-event_count : goal.returns-then-i-event_count
returns-then-i-event_count c =
    let a = c.args in
    let l : a.i < (events_in a.case.format a.case.events.now).count = omega (arith, c.if-i-event_count.true, c.event_count.ensures) in
    rw (lt-ltb _ _ l, kind_here _ _ _ _ c.event_at-event.ensures)

pub returns : goal.returns
returns c =
    let a = c.args in
    let l : (events_in a.case.format a.case.events.now).count ≤ a.i = omega (arith, c.if-i-event_count.false, c.event_count.ensures) in
    rw (le-ltb _ _ l)
