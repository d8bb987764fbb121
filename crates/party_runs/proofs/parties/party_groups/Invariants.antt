use mathlib.Core.List.{[]}
use mathlib.Core.Path.{◌≡◌}
use lib.ListN.{length}
use Rattle.binary.specs.Lists.{Holds}
use Rattle.casefile.specs.Layout.{most_events}
use Rattle.casefile.specs.Decode.{case_in}
use Rattle.casefile.specs.Lookup.{group_of}
use Rattle.party_runs.proofs.parties.party_groups.Given as goal

abbrev pub invariant-loop-i : goal.invariant-loop-i
invariant-loop-i l =
    (length l.table ≡ most_events) × Holds l.i l.table (group_of (case_in l.case.format l.case.units.now [] [] l.case.events.now))
