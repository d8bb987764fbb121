use Rattle.std.proofs.Common.{◌≡◌, ℕ, Bool}
use Rattle.binary.specs.Bounded.{any_to}
use Rattle.binary.specs.StageClosures.{Computes}
use Rattle.binary.proofs.bounded.any_to.Given as goal

abbrev pub invariant-loop-i : goal.invariant-loop-i
invariant-loop-i g l = (p : ℕ → Bool) → Computes l.n (goal.F-post g l.test) p → l.any ≡ any_to l.i p
