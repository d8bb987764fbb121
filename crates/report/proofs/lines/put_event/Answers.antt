-- Five fields, one after another.
use native.Mathlib.Omega.{arith}
use Rattle.report.proofs.PutLaws.{then}
use Rattle.report.specs.StagePut.{event_text}
use Rattle.report.proofs.lines.put_event.Goals as goal

pub returns : goal.returns
unfolding event_text
returns c =
    let p5 = c.put_field.ensures in
    let p4 = c.put_field-at-4.ensures in
    let p3 = c.put_field-at-3.ensures in
    let p2 = c.put_field-at-2.ensures in
    let p1 = c.put_field-at.ensures in
    (then (then (then (then p1.0 p2.0) p3.0) p4.0) p5.0, omega (arith, p1.1, p2.1, p3.1, p4.1, p5.1))
