use mathlib.Core.Path.{◌≡◌}
use Rattle.binary.specs.Bounded.{all_to}
use Rattle.casefile.specs.Decode.{units_in}
use Rattle.limits.specs.Refusal.{reference_fine}
use Rattle.limits.specs.StageLookup.{IsPlace}
use Rattle.record_check.proofs.reference_limits.references_fine.Given as goal

abbrev pub invariant-loop-i : goal.invariant-loop-i
invariant-loop-i l =
    (l.fine ≡ all_to l.i (reference_fine l.case.format (units_in l.case.format l.case.units.now) l.references)) × IsPlace (units_in l.case.format l.case.units.now) l.last l.place
