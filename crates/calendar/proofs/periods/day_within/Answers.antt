use Prim.Native.Nat.{◌-◌}
use native.Mathlib.Omega.{arith}
use Rattle.calendar.specs.Periods.{day_within}
use Rattle.calendar.proofs.PeriodLaws.{min_choice, choice_below, next_start, month_last}
use Rattle.calendar.proofs.periods.day_within.Goals as goal

pub returns : goal.returns
unfolding day_within
returns c =
    let s = c.before.before.before in
    rw (
      c.choose.ensures,
      ← min_choice s.args.x (c.month_start.result - c.month_start-first.result - 1),
      c.month_start-first.ensures,
      c.month_start.ensures,
      month_last s.args.k,
    )

pub overflow_sub-last : goal.overflow_sub-last
overflow_sub-last c = omega (arith, next_start c.args.k c.requires.0, c.month_start-first.ensures, c.month_start.ensures)

pub overflow_sub-last-2 : goal.overflow_sub-last-2
overflow_sub-last-2 c = omega (arith, next_start c.args.k c.requires.0, c.month_start-first.ensures, c.month_start.ensures)
