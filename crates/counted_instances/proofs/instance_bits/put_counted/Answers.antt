use Prim.Native.Nat.{◌<◌}
use mathlib.Core.Path.{◌≡◌, refl, ◌∙◌}
use native.Mathlib.Omega.{arith}
use lib.ListN.{length-set}
use Rattle.binary.specs.Lists.{list_to}
use Rattle.binary.proofs.ListLaws.{fill_none, fill_more, list_at}
use Rattle.casefile.specs.Layout.{most_events}
use Rattle.casefile.specs.Decode.{events_in, decode}
use Rattle.casefile.proofs.RecordLaws.{count_is}
use Rattle.party_runs.specs.StageParties.{leader_of}
use Rattle.conduct.proofs.FileLaws.{has_section, header_long, file_few}
use Rattle.sanctions.specs.StageGiven.{FoundMasks}
use Rattle.counted_instances.specs.CountedInstances.{counted_length}
use Rattle.counted_instances.specs.StageCounted.{byte_in}
use Rattle.counted_instances.proofs.CountedLaws.{counted_put}
use Rattle.counted_instances.proofs.instance_bits.put_counted.Goals as goal

pub of-case-requires : goal.of-case-requires
of-case-requires c =
    let a = c.requires.accepted_file.0 in
    record { units = has_section _ a 0 (omega arith); references = has_section _ a 1 (omega arith); past = has_section _ a 2 (omega arith); events = has_section _ a 3 (omega arith) }

pub loop-b-init : goal.loop-b-init
loop-b-init c = (refl, fill_none _ _)

pub byte_at-requires : goal.byte_at-requires
byte_at-requires c =
    let ready : let n = (events_in c.of-case.result.format c.of-case.result.events.now).count in
    (c.args.i < n) × (c.args.i < most_events) = let f = c.args.file.now in
    let ef = c.of-case.ensures.format in
    let ee = c.of-case.ensures.events in
    let q = count_is _ f _ ef ee in
    let n = file_few f c.requires.accepted_file.0 _ _ _ ef refl ee in
    (omega (arith, c.requires.accepted_file.1), omega (arith, c.requires.accepted_file.1)) in
    (ready.0, ready.1, omega (arith, c.loop-b-test.true))

pub bounds-out-b : goal.bounds-out-b
bounds-out-b c =
    omega (arith, c.loop-b-test.true, c.loop-b.invariant.0, c.requires.accepted_file.2)

pub loop-b-preserved : goal.loop-b-preserved
loop-b-preserved c = (
  length-set c.loop-b.out c.loop-b.b c.byte_at.result ∙ c.loop-b.invariant.0,
  rw (c.loop-b.invariant.1, c.byte_at.ensures)
      (fill_more (byte_in _ _ _ _ _ _) _ _ (omega (arith, c.loop-b-test.true, c.requires.accepted_file.2))),
)

pub shape_of-out : goal.shape_of-out
shape_of-out c = c.loop-b.invariant.0

pub returns : goal.returns
returns c =
    let found : let a = c.args in let c = decode a.file.now in
    FoundMasks c c.events.count a.groups.now (list_to c.events.count (leader_of c)) a.masks.now = let p = c.requires in
    let c = decode c.args.file.now in
    record { group_held = p.groups_found; leader_held = λ j m. list_at (leader_of c) c.events.count j 0 m; mask_held = p.masks_found } in
    let e : c.loop-b.b ≡ counted_length = omega (arith, c.loop-b-test.false) in
    counted_put c.args.file.now c.requires.accepted_file.0 _ _ _ found c.args.i c.requires.accepted_file.1 _ _ _ _ _ c.of-case.ensures.format c.of-case.ensures.past
    c.of-case.ensures.events (rw e at c.loop-b.invariant.1)
