use Rattle.std.proofs.Common.{arith, rules, ◌≡◌}
use Rattle.binary.specs.Word.{positive_part}
use Rattle.sanctions.specs.StageTables.{hour_energy}
use Rattle.sanctions.proofs.TableLaws.{hour_energies, positive_part_holds, hour_small}
use Rattle.sanctions.proofs.withheld.amount.Goals as goal

pub sum_to-requires-clause-fits : goal.sum_to-requires-clause-fits
sum_to-requires-clause-fits c = (
  hour_energies,
  (λ h r l p.
      let e : r ≡ hour_energy (positive_part 32) c.args.cells.now c.args.mask h = search rules in
      rw e (hour_small (positive_part 32) positive_part_holds c.args.cells.now c.args.mask c.requires.1 h l)),
  omega arith,
)

pub returns : goal.returns
returns c =
    let most =
    c.sum_to.ensures.within hour_energies
    (λ h r l p.
    let e : r ≡ hour_energy (positive_part 32) c.args.cells.now c.args.mask h = search rules in
    rw e (hour_small (positive_part 32) positive_part_holds c.args.cells.now c.args.mask c.requires.1 h l)) in
    (c.sum_to.ensures.value (hour_energy (positive_part 32) c.args.cells.now c.args.mask) (λ h r l p. search rules), omega (arith, most))
