use Prim.Native.Nat.{ℕ, ◌≤◌, ◌*◌}
use mathlib.Core.List.{[]}
use lib.ListN.{get_or}
use Rattle.casefile.specs.Decode.{case_in}
use Rattle.conduct.specs.StageFlags.{led_sum, HasRow}
use Rattle.conduct.proofs.sums.party_sums.Given as goal

abbrev pub invariant-loop-j : goal.invariant-loop-j
invariant-loop-j l =
    ((k : ℕ) → get_or l.sums k 0 ≤ 4294967295 * l.j) × HasRow (led_sum (case_in l.case.format [] [] [] l.case.events.now) l.leaders l.j l.i) l.sums
