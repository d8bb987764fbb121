use native.Mathlib.Omega.{arith}
use borrow.Author.Tests.{lt-ltb, le-ltb}
use Rattle.calendar.specs.Months.{calendar_days}
use Rattle.calendar.specs.Periods.{has_period}
use Rattle.calendar.proofs.PeriodLaws.{same_half_year}
use Rattle.calendar.proofs.periods.has_period.Goals as goal

pub returns-then-day-ge-DAYS : goal.returns-then-day-ge-DAYS
unfolding has_period
returns-then-day-ge-DAYS c = rw (le-ltb c.args.day calendar_days (omega arith))

pub returns : goal.returns
unfolding has_period
returns c = rw (lt-ltb c.args.day calendar_days (omega arith)) (same_half_year _ _ _ c.half_years.ensures)
