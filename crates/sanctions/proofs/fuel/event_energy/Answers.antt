use Prim.Native.Nat.{ℕ, ◌+◌, ◌*◌, ◌≤◌}
use mathlib.Core.Path.{◌≡◌, ◌∙◌}
use native.Mathlib.Nat.{add_assoc}
use native.Mathlib.Omega.{arith}
use Rattle.binary.specs.Bounded.{sum_to}
use Rattle.binary.specs.Word.{positive_part, negative_part}
use Rattle.binary.proofs.BoundedLaws.{sum_none, sum_more}
use Rattle.casefile.specs.Layout.{most_hours}
use Rattle.sanctions.specs.StageTables.{energy_in, energy_of}
use Rattle.sanctions.proofs.TableLaws.{hour_energies, positive_part_holds, negative_part_holds, hour_small}
use Rattle.sanctions.proofs.fuel.event_energy.Goals as goal

none : (x y : ℕ) (f : ℕ → ℕ) → x ≡ y → 10 * x ≡ 10 * y + sum_to 0 f
none x y f e = let z = sum_none f in omega arith

pub overflow_mul-gain : goal.overflow_mul-gain
unfolding energy_of energy_in
overflow_mul-gain c = omega (arith, c.from-gain.ensures)

pub overflow_mul-loss : goal.overflow_mul-loss
unfolding energy_of energy_in
overflow_mul-loss c = omega (arith, c.from-loss.ensures)

pub loop-h-init : goal.loop-h-init
unfolding energy_of energy_in
loop-h-init c =
    let g = c.from-gain.ensures ∙ c.positive_part.ensures in
    let l = c.from-loss.ensures ∙ c.negative_part.ensures in
    let p = positive_part_holds.small c.args.q in
    let n = negative_part_holds.small c.args.q in
    (omega arith, omega arith, none _ _ _ g, none _ _ _ l)

pub overflow_add-gain : goal.overflow_add-gain
unfolding energy_of energy_in
overflow_add-gain c =
    let small : (c.hour_energy-hour.result.gain ≤ hour_energies) × (c.hour_energy-hour.result.loss ≤ hour_energies) = let t = c.loop-h-test.true in (
      rw c.hour_energy-hour.ensures.0 (hour_small (positive_part 32) positive_part_holds c.args.cells.now c.args.mask c.requires.1 _ t),
      rw c.hour_energy-hour.ensures.1 (hour_small (negative_part 32) negative_part_holds c.args.cells.now c.args.mask c.requires.1 _ t),
    ) in
    omega arith

pub overflow_add-loss : goal.overflow_add-loss
unfolding energy_of energy_in
overflow_add-loss c =
    let small : (c.hour_energy-hour.result.gain ≤ hour_energies) × (c.hour_energy-hour.result.loss ≤ hour_energies) = let t = c.loop-h-test.true in (
      rw c.hour_energy-hour.ensures.0 (hour_small (positive_part 32) positive_part_holds c.args.cells.now c.args.mask c.requires.1 _ t),
      rw c.hour_energy-hour.ensures.1 (hour_small (negative_part 32) negative_part_holds c.args.cells.now c.args.mask c.requires.1 _ t),
    ) in
    omega arith

pub loop-h-preserved : goal.loop-h-preserved
unfolding energy_of energy_in
loop-h-preserved c =
    let small : (c.hour_energy-hour.result.gain ≤ hour_energies) × (c.hour_energy-hour.result.loss ≤ hour_energies) = let t = c.loop-h-test.true in (
      rw c.hour_energy-hour.ensures.0 (hour_small (positive_part 32) positive_part_holds c.args.cells.now c.args.mask c.requires.1 _ t),
      rw c.hour_energy-hour.ensures.1 (hour_small (negative_part 32) negative_part_holds c.args.cells.now c.args.mask c.requires.1 _ t),
    ) in
    let l = c.loop-h in (
      omega arith,
      omega arith,
      rw (l.invariant.2, c.hour_energy-hour.ensures.0, sum_more, add_assoc),
      rw (l.invariant.3, c.hour_energy-hour.ensures.1, sum_more, add_assoc),
    )

pub returns : goal.returns
unfolding energy_of energy_in
returns c =
    let l = c.loop-h in
    let e : l.h ≡ most_hours = omega arith in
    rw (l.invariant.2, l.invariant.3, e)
