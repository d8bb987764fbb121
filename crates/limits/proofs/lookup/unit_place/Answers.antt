use mathlib.Core.Path.{◌≡◌, sym, ◌∙◌}
use mathlib.Core.Bool.{true, false}
use native.Mathlib.Omega.{arith}
use borrow.Author.Tests.{eq-eqb, ne_eqb}
use lib.Dec.{eqb}
use Rattle.casefile.specs.Decode.{units_in}
use Rattle.casefile.specs.Lookup.{is_listed, place_of}
use Rattle.limits.specs.StageLookup.{place_in}
use Rattle.limits.proofs.SearchLaws.{listed_at, listed_none, placed_at}
use Rattle.limits.proofs.lookup.unit_place.Goals as goal

pub unit_from-at-requires : goal.unit_from-at-requires
unit_from-at-requires c = c.requires

pub returns-then-listed : goal.returns-then-listed
unfolding place_in
returns-then-listed c =
    let u = units_in c.args.case.format c.args.case.units.now in
    let at = c.unit_from-at.result in
    let same : eqb (u.number at) c.args.number ≡ true = eq-eqb _ _ (rw c.unit_number.ensures at c.if-listed.true) in
    let listed : is_listed u c.args.number ≡ true = sym (listed_at u c.args.number c.requires at c.unit_from-at.ensures (omega arith)) ∙ same in
    let place : at ≡ place_of u c.args.number = rw same at (placed_at u c.args.number c.requires at c.unit_from-at.ensures (omega arith)) in
    rw (listed, ← place)

pub returns-else-listed : goal.returns-else-listed
unfolding place_in
returns-else-listed c =
    let u = units_in c.args.case.format c.args.case.units.now in
    let listed : is_listed u c.args.number ≡ false =
    sym (listed_at u c.args.number c.requires c.unit_from-at.result c.unit_from-at.ensures (omega arith)) ∙ ne_eqb _ _ (rw c.unit_number.ensures at c.if-listed.false) in
    rw listed

pub returns-else-at-unit_count : goal.returns-else-at-unit_count
unfolding place_in
returns-else-at-unit_count c =
    let u = units_in c.args.case.format c.args.case.units.now in
    rw (listed_none u c.args.number c.requires c.unit_from-at.result c.unit_from-at.ensures (omega arith))
