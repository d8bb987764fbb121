use Rattle.std.proofs.Common.{◌≡◌, ℕ, Bool}
use Rattle.binary.specs.Bounded.{all_to}
use Rattle.binary.specs.StageClosures.{Computes}
use Rattle.binary.proofs.bounded.all_to.Given as goal

abbrev pub invariant-loop-i : goal.invariant-loop-i
invariant-loop-i g l = (p : ℕ → Bool) → Computes l.n (goal.F-post g l.test) p → l.all ≡ all_to l.i p
