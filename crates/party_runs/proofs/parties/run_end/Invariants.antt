use Prim.Native.Nat.{◌-◌}
use mathlib.Core.Bool.{true}
use mathlib.Core.Path.{◌≡◌}
use Rattle.casefile.specs.Decode.{events_in}
use Rattle.party_runs.specs.StageParties.{same_run}
use Rattle.party_runs.proofs.parties.run_end.Given as goal

abbrev pub invariant-loop-end : goal.invariant-loop-end
invariant-loop-end l =
    same_run (events_in l.case.format l.case.events.now) l.i (l.end - 1) ≡ true
