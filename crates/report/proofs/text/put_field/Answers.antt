-- `text::put_field` meets its contract: the number's digits, and then the byte. Assumes nothing.
use borrow.Author.Rules.{rules}
use native.Mathlib.Omega.{arith}
use Rattle.report.specs.Decimal.{field, length_decimal_to}
use Rattle.report.proofs.PutLaws.{then, put_size}
use Rattle.report.proofs.text.put_field.Goals as goal

pub put_decimal-next-requires : goal.put_decimal-next-requires
put_decimal-next-requires c = search rules

pub put_byte-requires : goal.put_byte-requires
put_byte-requires c =
    let p = c.put_decimal-next.ensures in
    omega (arith, p.place, put_size p, length_decimal_to 20 c.args.n)

pub shape_of-out : goal.shape_of-out
shape_of-out c = search rules

pub returns : goal.returns
unfolding field
returns c =
    let p = c.put_decimal-next.ensures in
    let q = c.put_byte.ensures in
    (then p q, omega (arith, p.place, q.place, length_decimal_to 20 c.args.n))
