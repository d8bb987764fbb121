-- Each month before this one has at most 31 days.
use Rattle.std.proofs.Common.{◌*◌, ◌≤◌}
use Rattle.month_starts.proofs.months.print_starts.Given as goal

abbrev pub invariant-loop-month : goal.invariant-loop-month
invariant-loop-month g l = l.start ≤ 31 * l.month
