use Prim.Native.Nat.{ℕ}
use mathlib.Core.Path.{◌≡◌, ◌∙◌, sym, ap}
use borrow.Author.Rules.{rules}
use native.Mathlib.Omega.{arith}
use Rattle.casefile.specs.Decode.{events_in}
use Rattle.report.specs.StagePut.{event_text}
use Rattle.report.proofs.PutLaws.{then, nothing, same_text, put_size}
use Rattle.report.specs.Line.{row_fields, lines_to}
use Rattle.report.proofs.TextLineLaws.{lines_none, lines_more, event_text_is}
use Rattle.report.proofs.lines.put_lines.Goals as goal

pub loop-i-preserved : goal.loop-i-preserved
loop-i-preserved c =
    let l = c.loop-i in
    let a = c.args in
    let event = same_text (ap event_text c.event_at-event.ensures ∙ event_text_is (events_in a.case.format a.case.events.now) l.i) c.put_event-next.ensures.0 in
    let row = same_text (ap row_fields c.record_at-row.ensures.0) c.put_row-at.ensures.0 in (
      omega (arith, c.put_event-next.ensures.1, c.put_row-at.ensures.1, l.invariant.0),
      omega (arith, put_size event, put_size row, l.invariant.1),
      same_text (sym (lines_more a.case.format l.i (events_in a.case.format a.case.events.now) a.rows.now)) (then l.invariant.2 (then event row)),
    )

pub returns : goal.returns
returns c =
    let l = c.loop-i in
    let a = c.args in
    let e : l.i ≡ a.n = omega arith in
    (same_text (ap (λ (k : ℕ). lines_to a.case.format k (events_in a.case.format a.case.events.now) a.rows.now) e) l.invariant.2, omega (arith, l.invariant.0))

pub loop-i-init : goal.loop-i-init
loop-i-init c = (omega arith, search rules, same_text (sym (lines_none _ _ _)) (nothing _ _))
