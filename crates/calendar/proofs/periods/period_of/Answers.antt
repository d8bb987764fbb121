use native.Mathlib.Omega.{arith}
use Rattle.calendar.specs.Periods.{period_of}
use Rattle.calendar.proofs.MonthLaws.{month_below}
use Rattle.calendar.proofs.periods.period_of.Goals as goal

pub overflow_cast-result : goal.overflow_cast-result
unfolding period_of
overflow_cast-result c = omega (arith, c.half_years.ensures, month_below c.args.day c.requires)
