use Rattle.calendar.proofs.PeriodLaws.{in_summer, in_winter}
use Rattle.calendar.proofs.periods.half_years.Goals as goal

pub returns-then-quarters-lt-SUMMER : goal.returns-then-quarters-lt-SUMMER
returns-then-quarters-lt-SUMMER c = in_summer c.args.day c.requires c.if-quarters-lt-SUMMER.true

pub returns : goal.returns
returns c = in_winter c.args.day c.requires c.if-quarters-lt-SUMMER.false
