use Prim.Native.Nat.{◌+◌, ◌-◌}
use mathlib.Core.Bool.{true}
use mathlib.Core.Path.{◌≡◌, sym, ap, ◌∙◌}
use native.Mathlib.Omega.{arith}
use Rattle.std.proofs.Common.{Ok}
use Rattle.binary.specs.Bounded.{all_to}
use Rattle.binary.proofs.BoundedLaws.{all_none, all_more}
use Rattle.casefile.specs.Decode.{events_in, amounts_in}
use Rattle.limits.specs.StageRefusal.{events_in_calendar}
use Rattle.limits.specs.Refusal.{event_fine, events_fine, event_key, order_fine}
use Rattle.event_check.specs.StageReading.{order_of, order_number}
use Rattle.event_check.proofs.EventLaws.{readable, read_day, read_unit, read_key, read_dated, rising_turn, order_numbered}
use Rattle.event_check.proofs.event_limits.order_refusal.Goals as goal

pub loop-i-init : goal.loop-i-init
unfolding order_of events_fine order_fine events_in_calendar
loop-i-init c = (sym (all_none _), all_none _, λ z. absurd (omega arith), all_none _)

pub event_key-key-requires : goal.event_key-key-requires
unfolding order_of events_fine order_fine events_in_calendar
event_key-key-requires c =
    let a = c.args in
    let s = a.case.events.now in
    let t = readable a.case.format s c.loop-i.i _ (sym c.read_event.ensures.0 ∙ c.in-Some.is) in (
      read_day a.case.format s c.loop-i.i _ t.0 t.1,
      read_unit a.case.format s c.loop-i.i _ a.case.bytes
          c.requires (omega arith) t.1,
    )

pub loop-i-preserved : goal.loop-i-preserved
unfolding order_of events_fine order_fine events_in_calendar
loop-i-preserved c =
    let l = c.loop-i in
    let a = c.args in
    let s = a.case.events.now in
    let t = readable a.case.format s l.i _ (sym c.read_event.ensures.0 ∙ c.in-Some.is) in
    let k : c.event_key-key.result ≡ event_key (events_in a.case.format s) l.i = c.event_key-key.ensures ∙ read_key a.case.format s l.i _ t.1 in
    let q : l.i + 1 - 1 ≡ l.i = omega arith in (
      rw (all_more, l.invariant.0) t.0,
      rising_turn (event_key (events_in a.case.format s)) l.i l.last c.event_key-key.result l.rising l.invariant.1 l.invariant.2 k,
      λ z. rw q k,
      rw (l.invariant.3, c.has_period-dated.ensures, read_dated a.case.format s l.i _ t.1, all_more),
    )

pub returns : goal.returns
unfolding order_of events_fine order_fine events_in_calendar
returns c =
    let l = c.loop-i in
    let a = c.args in
    let s = a.case.events.now in
    let e : l.i ≡ (events_in a.case.format s).count = omega arith in
    let f : all_to (events_in a.case.format s).count (event_fine (events_in a.case.format s) (amounts_in a.case.format s)) ≡ true = rw e at l.invariant.0 in
    let value : Ok (record { dated = l.dated; rising = l.rising }) ≡ order_of a.case.format s = rw (l.invariant.1, l.invariant.3, e, f) in
    record { value = value; number = ap order_number value ∙ order_numbered a.case.format s }
