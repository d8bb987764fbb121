use Prim.Native.Nat.{◌+◌, ◌*◌, ◌≤◌}
use mathlib.Core.Path.{◌≡◌}
use Rattle.binary.specs.Bounded.{sum_to}
use Rattle.binary.specs.Word.{positive_part, negative_part}
use Rattle.sanctions.specs.StageTables.{hour_energy}
use Rattle.sanctions.proofs.TableLaws.{highest_part, hour_energies}
use Rattle.sanctions.proofs.fuel.event_energy.Given as goal

abbrev pub invariant-loop-h : goal.invariant-loop-h
invariant-loop-h l =
    (l.gain ≤ 10 * highest_part + hour_energies * l.h) × (l.loss ≤ 10 * highest_part + hour_energies * l.h) × (l.gain ≡ 10 * positive_part 32 l.q + sum_to l.h (hour_energy (positive_part 32) l.cells l.mask)) × (l.loss ≡ 10 * negative_part 32 l.q + sum_to l.h (hour_energy (negative_part 32) l.cells l.mask))
