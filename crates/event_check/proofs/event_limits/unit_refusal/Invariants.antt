use mathlib.Core.Bool.{true}
use mathlib.Core.Path.{◌≡◌}
use lib.ListN.{length}
use Rattle.binary.specs.Bounded.{all_to}
use Rattle.binary.specs.Lists.{Holds}
use Rattle.casefile.specs.Layout.{most_events}
use Rattle.casefile.specs.Decode.{units_in, events_in, amounts_in}
use Rattle.limits.specs.Refusal.{event_listed, amount_fine}
use Rattle.limits.specs.StageLookup.{IsPlace}
use Rattle.event_check.specs.StageFound.{event_place}
use Rattle.event_check.proofs.event_limits.unit_refusal.Given as goal

abbrev pub invariant-loop-i : goal.invariant-loop-i
invariant-loop-i l =
    (length l.table ≡ most_events) × (all_to l.i (event_listed (units_in l.case.format l.case.units.now) (events_in l.case.format l.case.events.now)) ≡ true)
    × (l.fine ≡ all_to l.i (amount_fine (units_in l.case.format l.case.units.now) (events_in l.case.format l.case.events.now) (amounts_in l.case.format l.case.events.now)))
    × Holds l.i l.table (event_place (units_in l.case.format l.case.units.now) (events_in l.case.format l.case.events.now)) × IsPlace (units_in l.case.format l.case.units.now) l.last l.place
