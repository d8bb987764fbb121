use Prim.Native.Nat.{◌-◌}
use Rattle.casefile.specs.Decode.{references_in}
use Rattle.casefile.specs.Lookup.{reference_key}
use Rattle.limits.specs.StageLookup.{Between}
use Rattle.limits.proofs.lookup.reference_from.Given as goal

abbrev pub invariant-loop-lo : goal.invariant-loop-lo
invariant-loop-lo l = Between (reference_key (references_in l.format l.references)) (references_in l.format l.references).count l.key l.lo l.hi

abbrev pub decreases-loop-lo : goal.decreases-loop-lo
decreases-loop-lo l = l.hi - l.lo
