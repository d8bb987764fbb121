use native.Mathlib.Omega.{arith}
use borrow.Author.Tests.{lt-ltb, le-ltb}
use Rattle.calendar.specs.Months.{day_of_month}
use Rattle.calendar.specs.Periods.{window_start}
use Rattle.calendar.proofs.MonthLaws.{month_in}
use Rattle.calendar.proofs.periods.window_start.Goals as goal

pub returns-then-month-lt6 : goal.returns-then-month-lt6
unfolding window_start day_of_month
returns-then-month-lt6 c = rw (← c.month_of-month.ensures.0, lt-ltb _ _ c.if-month-lt6.true)

pub overflow_sub-day : goal.overflow_sub-day
unfolding window_start day_of_month
overflow_sub-day c =
    let k = c.before.before.before.before in
    rw (c.month_start.ensures, k.month_of-month.ensures.0) (month_in k.args.day).begun

pub returns : goal.returns
unfolding window_start day_of_month
returns c =
    let m = c.month_of-month.ensures.0 in
    rw (c.day_within.ensures, c.month_start.ensures, ← m, le-ltb _ _ c.if-month-lt6.false)
