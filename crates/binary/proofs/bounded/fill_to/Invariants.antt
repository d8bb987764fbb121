use Rattle.std.proofs.Common.{◌≡◌, ◌<◌, ℕ, ◌++◌, drop, get_or}
use Rattle.binary.specs.Lists.{list_to}
use Rattle.binary.specs.StageClosures.{Computes}
use Rattle.binary.proofs.bounded.fill_to.Given as goal

abbrev pub invariant-loop-i : goal.invariant-loop-i
invariant-loop-i g l = record {
  so_far : (f : ℕ → g.row.T.Denot) → Computes l.n (goal.F-post g l.value) f → l.list ≡ list_to l.i f ++ drop l.i l.initial.list;
  each : (i : ℕ) (d : g.row.T.Denot) → i < l.i → goal.F-post g l.value i (get_or l.list i d);
}
