use Rattle.casefile.specs.Decode.{units_in}
use Rattle.limits.specs.StageLookup.{Between}
use Rattle.limits.proofs.lookup.unit_from.Given as goal

abbrev pub invariant-loop-k : goal.invariant-loop-k
invariant-loop-k l = Between (units_in l.case.format l.case.units.now).number l.k l.number l.at l.at
