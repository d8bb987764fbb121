use Prim.Native.Nat.{◌<◌}
use mathlib.Core.Bool.{true, false}
use mathlib.Core.Path.{◌≡◌, sym, ◌∙◌}
use native.Mathlib.Omega.{arith}
use borrow.Author.Tests.{eq-eqb, ne_eqb}
use Rattle.casefile.specs.Decode.{references_in}
use Rattle.casefile.specs.Lookup.{has_reference, reference_key}
use Rattle.casefile.specs.StageRead.{reference_at}
use Rattle.casefile.proofs.RecordLaws.{component_byte}
use Rattle.limits.specs.StageLookup.{level_in}
use Rattle.limits.proofs.SearchLaws.{found_at, found_none, found_level}
use Rattle.limits.proofs.lookup.level_of.Goals as goal

pub reference_from-at-requires : goal.reference_from-at-requires
reference_from-at-requires c = c.requires

pub returns-then-there : goal.returns-then-there
unfolding reference_at reference_key level_in
returns-then-there c =
    let r = references_in c.args.format c.args.references.now in
    let bytes = component_byte c.args.format c.args.references.now (λ x. (c.shared_slice_known-1.given x).fits) in
    let b = rw c.key_of-key.ensures at c.reference_from-at.ensures in
    let below : c.reference_from-at.result < r.count = omega arith in
    let has : has_reference r c.args.unit c.args.component ≡ true =
    sym (found_at r c.args.unit c.args.component c.requires c.ranges.component.fits bytes c.reference_from-at.result b below)
    ∙ eq-eqb _ _ (rw (c.key_of.ensures, c.key_of-key.ensures, c.reference_at-reference.ensures) at c.if-there.true) in
    rw (has, c.reference_at-reference.ensures, found_level r c.args.unit c.args.component c.requires c.ranges.component.fits bytes c.reference_from-at.result b has)

pub returns-else-there : goal.returns-else-there
unfolding reference_at reference_key level_in
returns-else-there c =
    let r = references_in c.args.format c.args.references.now in
    let bytes = component_byte c.args.format c.args.references.now (λ x. (c.shared_slice_known-1.given x).fits) in
    let b = rw c.key_of-key.ensures at c.reference_from-at.ensures in
    let below : c.reference_from-at.result < r.count = omega arith in
    let has : has_reference r c.args.unit c.args.component ≡ false =
    sym (found_at r c.args.unit c.args.component c.requires c.ranges.component.fits bytes c.reference_from-at.result b below)
    ∙ ne_eqb _ _ (rw (c.key_of.ensures, c.key_of-key.ensures, c.reference_at-reference.ensures) at c.if-there.false) in
    rw has

pub returns-else-at-reference_count : goal.returns-else-at-reference_count
unfolding reference_at reference_key level_in
returns-else-at-reference_count c =
    let r = references_in c.args.format c.args.references.now in
    let bytes = component_byte c.args.format c.args.references.now (λ x. (c.shared_slice_known-1.given x).fits) in
    rw
    (found_none r c.args.unit c.args.component c.requires c.ranges.component.fits bytes c.reference_from-at.result
    (rw c.key_of-key.ensures at c.reference_from-at.ensures) (omega arith))
