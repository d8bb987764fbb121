use native.Mathlib.Omega.{arith}
use Rattle.casefile.specs.Decode.{events_in}
use Rattle.report.specs.Line.{lines_to}
use Rattle.report.proofs.PutLaws.{then}
use Rattle.report.proofs.case_listing.put_settlement.Goals as goal

pub put_totals-requires : goal.put_totals-requires
put_totals-requires c = omega (arith, c.put_lines-at.ensures.1)

pub returns : goal.returns
returns c =
    let p = c.put_lines-at.ensures in
    let q = c.put_totals.ensures in
    let a = c.args in
    (then {s = lines_to a.case.format a.n (events_in a.case.format a.case.events.now) a.rows.now} p.0 q.0, omega (arith, p.1, q.1))
