use mathlib.Core.Path.{◌≡◌}
use lib.ListN.{length}
use Rattle.casefile.specs.Layout.{most_events}
use Rattle.casefile.specs.Decode.{references_in, events_in}
use Rattle.casefile.specs.Lookup.{correct_references}
use Rattle.event_check.proofs.CheckedLaws.{LevelsFound}
use Rattle.event_check.proofs.event_limits.references_found.Given as goal

abbrev pub invariant-loop-i : goal.invariant-loop-i
invariant-loop-i l =
    (length l.own ≡ most_events) × (length l.other ≡ most_events)
    × LevelsFound (references_in l.case.format l.case.references.now) (references_in l.case.format (correct_references l.correction l.case.references.now)) (events_in l.case.format l.case.events.now) l.i l.own l.other
