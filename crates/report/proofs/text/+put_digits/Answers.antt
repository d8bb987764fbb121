use Rattle.std.proofs.Common.{◌-◌, ◌/◌, arith}
use Rattle.report.specs.Decimal.{length_decimal_to}
use Rattle.report.proofs.PutLaws.{no_digit, last_digit, more_digits, put_size}
use Rattle.report.proofs.text.+put_digits.Goals as goal

pub returns-then-places-eq0 : goal.returns-then-places-eq0
returns-then-places-eq0 t c = no_digit _ _ _ _ c.if-places-eq0.true

pub returns-then-n-lt10 : goal.returns-then-n-lt10
returns-then-n-lt10 t c = last_digit _ _ c.if-places-eq0.false c.if-n-lt10.true c.put_byte.ensures

pub put_byte-requires-2 : goal.put_byte-requires-2
put_byte-requires-2 t c =
    let p = c.put_digits-next.ensures in
    omega (arith, p.place, put_size p, length_decimal_to (c.args.places - 1) (c.args.n / 10))

pub returns : goal.returns
returns t c = more_digits _ _ c.if-places-eq0.false c.if-n-lt10.false c.put_digits-next.ensures c.put_byte-2.ensures
