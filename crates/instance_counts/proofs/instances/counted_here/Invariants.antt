use Prim.Native.Nat.{◌≤◌}
use mathlib.Core.Path.{◌≡◌}
use Rattle.binary.specs.Bounded.{count_to}
use Rattle.instance_counts.specs.StageInstances.{row_counts}
use Rattle.instance_counts.proofs.instances.counted_here.Given as goal

abbrev pub invariant-loop-j : goal.invariant-loop-j
invariant-loop-j l =
    (l.three ≤ l.j) × (l.two ≤ l.j) × (l.three ≡ count_to l.j (row_counts l.case.format l.case.events.now l.groups l.masks l.group l.market l.period 2)) × (l.two ≡ count_to l.j (row_counts l.case.format l.case.events.now l.groups l.masks l.group l.market l.period 1))
