use mathlib.Core.Path.{◌≡◌}
use lib.ListN.{length}
use Rattle.casefile.specs.Layout.{most_events}
use Rattle.conduct.specs.StageFlags.{PartyFlagged}
use Rattle.conduct.proofs.flags.party_flags.Given as goal

abbrev pub invariant-loop-j : goal.invariant-loop-j
invariant-loop-j l =
    (length l.table ≡ most_events) × PartyFlagged l.case.format l.case.units.now l.case.events.now l.leaders l.i l.j l.initial.table l.table
