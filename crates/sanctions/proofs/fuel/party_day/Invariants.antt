use mathlib.Core.Path.{◌≡◌}
use Rattle.sanctions.specs.StageTables.{party_day}
use Rattle.sanctions.proofs.fuel.party_day.Given as goal

abbrev pub invariant-loop-j : goal.invariant-loop-j
invariant-loop-j l =
    record { gain = l.gain; loss = l.loss; rise = l.rise; fall = l.fall } ≡ party_day l.case.format l.case.events.now l.leaders l.mask l.i l.j
