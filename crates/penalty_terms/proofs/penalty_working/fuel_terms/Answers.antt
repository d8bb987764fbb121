use native.Mathlib.Nat.{le_refl}
use native.Mathlib.Omega.{arith}
use borrow.Author.Tests.{eq-eqb, ne_eqb}
use Rattle.sanctions.proofs.TableLaws.{SmallDay, day_small}
use Rattle.penalty_terms.specs.StageTerms.{fuel_of, no_fuel, fuel_in}
use Rattle.penalty_terms.proofs.penalty_working.fuel_terms.Goals as goal

pub returns-then-kind-ne3 : goal.returns-then-kind-ne3
unfolding fuel_in fuel_of no_fuel
returns-then-kind-ne3 c = rw (ne_eqb _ 3 c.if-kind-ne3.true)

pub offset_bounds-masks-row : goal.offset_bounds-masks-row
unfolding fuel_in fuel_of no_fuel
offset_bounds-masks-row c = let p = c.requires in omega (arith, p.in_range.0, p.in_range.1)

pub bounds-masks-row : goal.bounds-masks-row
unfolding fuel_in fuel_of no_fuel
bounds-masks-row c = let p = c.requires in omega (arith, p.in_range.0, p.in_range.1)

pub party_day-day-requires : goal.party_day-day-requires
unfolding fuel_in fuel_of no_fuel
party_day-day-requires c = let p = c.requires in (p.in_range.0, p.in_range.1, (p.of_fuel c.if-kind-ne3.false).0, p.in_range.2)

pub fuel_charge-x-requires : goal.fuel_charge-x-requires
unfolding fuel_in fuel_of no_fuel
fuel_charge-x-requires c =
    let small : SmallDay c.party_day-day.result = rw c.party_day-day.ensures
    (day_small c.args.case.format c.args.case.events.now c.args.leaders.now _ c.args.row (c.requires.of_fuel c.if-kind-ne3.false).0 c.requires.in_range.2 _ (le_refl _) c.requires.in_range.1) in
    let p = c.requires in
    ((p.of_fuel c.if-kind-ne3.false).1, small.gain_small, small.loss_small, rw c.saturating_sub-t.ensures (omega (arith, small.rise_small)))

pub returns : goal.returns
unfolding fuel_in fuel_of no_fuel
returns c =
    rw (
      c.saturating_sub-2.ensures,
      c.saturating_sub.ensures,
      c.fuel_charge-x.ensures.0,
      c.saturating_sub-t.ensures,
      c.party_day-day.ensures,
      eq-eqb _ 3 c.if-kind-ne3.false,
    )
