use native.Mathlib.Omega.{arith}
use Rattle.report.specs.Listing.{refusal_text}
use Rattle.report.proofs.PutLaws.{then, put_size}
use Rattle.report.proofs.case_listing.put_refusal.Goals as goal

pub put_field-requires : goal.put_field-requires
put_field-requires c = let p = c.put_bytes-at.ensures in omega (arith, p.place, put_size p)

pub returns : goal.returns
unfolding refusal_text
returns c =
    let p = c.put_bytes-at.ensures in
    let q = c.put_field.ensures in
    (then p q.0, omega (arith, p.place, q.1))
