use Prim.Native.Nat.{◌≤◌}
use mathlib.Core.Bool.{true, ◌&&◌}
use mathlib.Core.Path.{◌≡◌, sym}
use native.Mathlib.Omega.{arith}
use borrow.Author.Tests.{eq-eqb, ne_eqb}
use lib.Dec.{eqb}
use Rattle.binary.proofs.Implies.{and_l}
use Rattle.casefile.specs.Decode.{events_in}
use Rattle.casefile.specs.StageRead.{event_at}
use Rattle.default_bids.specs.StageFigures.{mitigated_by}
use Rattle.default_bids.proofs.SpanLaws.{span_hits}
use Rattle.default_bids.proofs.mitigated.mitigated_mask.Goals as goal

-- a word has room for the day's hours
room : (c : goal.Then-component-market) → c.event_at-event.result.hours ≤ 31
unfolding event_at events_in
room c = rw c.event_at-event.ensures (omega arith)

pub returns-then-kind-ne4 : goal.returns-then-kind-ne4
unfolding mitigated_by event_at
returns-then-kind-ne4 c = let k = rw c.event_at-event.ensures at (ne_eqb _ _ c.if-kind-ne4.true) in rw k

pub span_mask-requires : goal.span_mask-requires
unfolding mitigated_by event_at
span_mask-requires c = room c

pub returns-then-component-market : goal.returns-then-component-market
unfolding mitigated_by event_at
returns-then-component-market c =
    let bid : let a = c.args in eqb ((events_in a.case.format a.case.events.now).kind a.i) 4 ≡ true = rw c.event_at-event.ensures at (eq-eqb _ _ c.if-kind-ne4.false) in
    let e = c.event_at-event.ensures in
    let event = c.event_at-event.result in
    let t = rw e at (and_l (eqb event.component 1 && eqb event.market 0) _ c.if-component-market.true) in
    rw (c.span_mask.ensures, e, bid, t)

pub returns : goal.returns
unfolding mitigated_by event_at
returns c =
    let bid : let a = c.args in eqb ((events_in a.case.format a.case.events.now).kind a.i) 4 ≡ true = rw c.event_at-event.ensures at (eq-eqb _ _ c.if-kind-ne4.false) in
    let e = c.event_at-event.ensures in
    let a = c.args in
    let events = events_in a.case.format a.case.events.now in
    rw (e, bid)
    (sym (span_hits (events.hours a.i) (eqb (events.component a.i) 1 && eqb (events.market a.i) 0) _ _ (rw e at c.if-component-market.false)))
