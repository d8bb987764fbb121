use Rattle.std.proofs.Common.{◌≡◌, ◌^◌, ◌<◌, ℕ, Bool}
use Rattle.binary.specs.Bounded.{mask_to}
use Rattle.binary.specs.StageClosures.{Computes}
use Rattle.binary.proofs.bounded.mask_to.Given as goal

abbrev pub invariant-loop-i : goal.invariant-loop-i
invariant-loop-i g l = record {
  doubled : l.weight ≡ 2 ^ l.i;
  below : l.mask < 2 ^ l.i;
  so_far : (p : ℕ → Bool) → Computes l.n (goal.F-post g l.test) p → l.mask ≡ mask_to l.i p;
}
