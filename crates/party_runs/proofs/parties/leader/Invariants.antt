use Prim.Native.Nat.{◌-◌}
use mathlib.Core.Path.{◌≡◌}
use Rattle.binary.specs.Lists.{first_from}
use Rattle.party_runs.specs.StageParties.{same_group}
use Rattle.party_runs.proofs.parties.leader.Given as goal

abbrev pub invariant-loop-j : goal.invariant-loop-j
invariant-loop-j l =
    first_from (l.i - l.j) l.j (same_group l.groups l.i) ≡ first_from (l.i - l.start) l.start (same_group l.groups l.i)
