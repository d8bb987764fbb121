-- What the sums of a case keep below, so that no test of them wraps.
use Rattle.std.specs.Prelude.{ℕ, ◌^◌}

-- no sum of a case is above 2 ^ 40
abbrev pub highest_sum : ℕ
highest_sum = 2 ^ 40
