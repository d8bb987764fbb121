use Prim.Native.Nat.{ℕ}
use mathlib.Core.Bool.{cond}
use mathlib.Core.Path.{◌≡◌}
use lib.Dec.{eqb}
use lib.ListN.{length}
use Rattle.binary.specs.Bounded.{bit_of}
use Rattle.casefile.specs.Layout.{most_hours}
use Rattle.casefile.specs.StageRead.{cell_of}
use Rattle.conduct.specs.StageFlags.{Added, counted}
use Rattle.conduct.proofs.sums.add_event.Given as goal

abbrev pub invariant-loop-h : goal.invariant-loop-h
invariant-loop-h l =
    (length l.row ≡ most_hours) × Added l.h l.initial.row l.row (counted l.counts (λ (x : ℕ). cond (eqb l.kind 3) (cond (bit_of l.p x) 1 0) (cell_of l.cells x).a))
