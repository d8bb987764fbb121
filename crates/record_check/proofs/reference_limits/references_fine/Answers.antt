use mathlib.Core.Path.{◌≡◌}
use native.Mathlib.Omega.{arith}
use Rattle.binary.proofs.BoundedLaws.{all_none, all_more}
use Rattle.casefile.specs.Decode.{references_in}
use Rattle.casefile.specs.StageRead.{reference_at}
use Rattle.limits.specs.Refusal.{reference_fine, references_fine}
use Rattle.limits.specs.StageLookup.{reference_fine_where}
use Rattle.limits.proofs.LookupLaws.{is_placed}
use Rattle.record_check.proofs.reference_limits.references_fine.Goals as goal

pub returns-then-n-eq0 : goal.returns-then-n-eq0
unfolding references_fine reference_fine reference_fine_where reference_at
returns-then-n-eq0 c =
    let s = c.args in
    let e : (references_in s.case.format s.references.now).count ≡ 0 = omega arith in
    rw e (all_none _)

pub loop-i-init : goal.loop-i-init
unfolding references_fine reference_fine reference_fine_where reference_at
loop-i-init c = (all_none _, c.unit_place-place.ensures)

pub next_place-place-requires : goal.next_place-place-requires
unfolding references_fine reference_fine reference_fine_where reference_at
next_place-place-requires c = (c.requires, c.loop-i.invariant.1)

pub loop-i-preserved : goal.loop-i-preserved
unfolding reference_fine reference_fine_where reference_at
loop-i-preserved c =
    let place = c.next_place-place.ensures in (
      rw (c.loop-i.invariant.0, c.reference_fine-fine.ensures, c.is_some-listed.ensures, place, is_placed, c.reference_at-reference.ensures, all_more),
      place,
    )

pub returns : goal.returns
unfolding references_fine reference_fine reference_fine_where reference_at
returns c =
    let s = c.args in
    let e : c.loop-i.i ≡ (references_in s.case.format s.references.now).count = omega arith in
    rw (c.loop-i.invariant.0, e)
