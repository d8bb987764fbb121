use Rattle.std.proofs.Common.{◌≡◌, ◌≤◌, ◌*◌, ℕ}
use Rattle.binary.specs.Bounded.{sum_to}
use Rattle.binary.specs.StageClosures.{Computes, StaysWithin}
use Rattle.binary.proofs.bounded.sum_to.Given as goal

abbrev pub invariant-loop-i : goal.invariant-loop-i
invariant-loop-i g l = record {
  small : (most : ℕ) → StaysWithin l.n (goal.F-post g l.term) most → l.sum ≤ l.i * most;
  so_far : (f : ℕ → ℕ) → Computes l.n (goal.F-post g l.term) f → l.sum ≡ sum_to l.i f;
}
