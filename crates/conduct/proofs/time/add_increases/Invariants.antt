use Prim.Native.Nat.{ℕ}
use mathlib.Core.Path.{◌≡◌}
use lib.ListN.{length}
use Rattle.casefile.specs.StageRead.{cell_of}
use Rattle.conduct.specs.StageFlags.{Added}
use Rattle.conduct.specs.StageTime.{counted_increase}
use Rattle.conduct.proofs.time.add_increases.Given as goal

abbrev pub invariant-loop-h : goal.invariant-loop-h
invariant-loop-h l =
    (length l.row ≡ length l.initial.row) × Added l.h l.initial.row l.row (counted_increase (λ (_ x : ℕ). (cell_of l.cells x).a) l.level l.j l.counts)
