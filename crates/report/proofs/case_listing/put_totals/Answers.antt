use native.Mathlib.Omega.{arith}
use Rattle.report.specs.Listing.{total_text}
use Rattle.report.proofs.PutLaws.{then, put_size}
use Rattle.report.proofs.case_listing.put_totals.Goals as goal

pub put_field-at-requires : goal.put_field-at-requires
put_field-at-requires c = let p = c.put_bytes-at.ensures in omega (arith, p.place, put_size p)

pub put_field-requires : goal.put_field-requires
put_field-requires c =
    let p = c.put_bytes-at.ensures in
    let q = c.put_field-at.ensures in
    omega (arith, p.place, put_size p, q.1, put_size q.0)

pub returns : goal.returns
unfolding total_text
returns c =
    let p = c.put_bytes-at.ensures in
    let q = c.put_field-at.ensures in
    let r = c.put_field.ensures in
    (then (then p q.0) r.0, omega (arith, p.place, q.1, r.1))
