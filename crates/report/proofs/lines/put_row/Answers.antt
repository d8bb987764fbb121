-- Five fields, one after another.
use native.Mathlib.Omega.{arith}
use Rattle.report.proofs.PutLaws.{then, read_as}
use Rattle.report.specs.Line.{row_fields}
use Rattle.report.proofs.lines.put_row.Goals as goal

pub returns : goal.returns
unfolding row_fields
returns c =
    let p1 = read_as 32 c.load-flags.ensures c.put_field-at.ensures.0 in
    let p2 = read_as 32 c.load-mitigated.ensures c.put_field-at-2.ensures.0 in
    let p3 = read_as 32 c.load-multiplier.ensures c.put_field-at-3.ensures.0 in
    let p4 = read_as 32 c.load-penalty.ensures c.put_field-at-4.ensures.0 in
    let p5 = read_as 10 c.load-make_up.ensures c.put_field.ensures.0 in (
      then (then (then (then p1 p2) p3) p4) p5,
      omega (arith, c.put_field-at.ensures.1, c.put_field-at-2.ensures.1, c.put_field-at-3.ensures.1, c.put_field-at-4.ensures.1, c.put_field.ensures.1),
    )
