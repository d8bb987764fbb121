use Prim.Native.Nat.{◌-◌}
use mathlib.Core.Path.{◌≡◌}
use lib.ListN.{length}
use Rattle.binary.specs.Lists.{Holds}
use Rattle.casefile.specs.Layout.{most_events}
use Rattle.casefile.specs.Decode.{events_in}
use Rattle.party_runs.specs.StageParties.{RunStart, leader_in}
use Rattle.party_runs.proofs.parties.party_leaders.Given as goal

abbrev pub invariant-loop-i : goal.invariant-loop-i
invariant-loop-i l =
    (length l.table ≡ most_events) × RunStart (events_in l.case.format l.case.events.now) (l.i - 1) l.start × Holds l.i l.table (leader_in (events_in l.case.format l.case.events.now) l.groups)
