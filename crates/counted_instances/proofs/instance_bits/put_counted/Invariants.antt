use mathlib.Core.List.{◌++◌}
use mathlib.Core.Path.{◌≡◌}
use lib.ListN.{length, drop}
use Rattle.binary.specs.Lists.{list_to}
use Rattle.counted_instances.specs.StageCounted.{byte_in}
use Rattle.counted_instances.proofs.instance_bits.put_counted.Given as goal

abbrev pub invariant-loop-b : goal.invariant-loop-b
invariant-loop-b l =
    (length l.out ≡ length l.initial.out) × (l.out ≡ list_to l.b (byte_in l.case.format l.case.past.now l.case.events.now l.groups l.masks l.i) ++ drop l.b l.initial.out)
