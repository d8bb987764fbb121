use Prim.Native.Nat.{◌-◌, ◌<◌}
use mathlib.Core.Bool.{true}
use mathlib.Core.Path.{◌≡◌}
use Rattle.binary.specs.Bounded.{all_to}
use Rattle.calendar.specs.Periods.{has_period}
use Rattle.casefile.specs.Decode.{events_in, amounts_in}
use Rattle.limits.specs.Refusal.{rises, event_fine, event_key}
use Rattle.event_check.proofs.event_limits.order_refusal.Given as goal

abbrev pub invariant-loop-i : goal.invariant-loop-i
invariant-loop-i l =
    (all_to l.i (event_fine (events_in l.case.format l.case.events.now) (amounts_in l.case.format l.case.events.now)) ≡ true)
    × (l.rising ≡ all_to l.i (rises (event_key (events_in l.case.format l.case.events.now)))) × (0 < l.i → l.last ≡ event_key (events_in l.case.format l.case.events.now) (l.i - 1))
    × (l.dated ≡ all_to l.i (λ j. has_period ((events_in l.case.format l.case.events.now).day j) ((events_in l.case.format l.case.events.now).period j)))
