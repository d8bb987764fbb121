use Prim.Native.Nat.{◌+◌}
use mathlib.Core.Path.{◌≡◌, ap, ◌∙◌}
use native.Mathlib.Omega.{arith}
use Rattle.sanctions.specs.StageTables.{party_day}
use Rattle.sanctions.proofs.TableLaws.{SmallDay, plus, day_none, day_more, day_whole, day_small}
use Rattle.sanctions.proofs.fuel.party_day.Goals as goal

pub run_end-end-requires : goal.run_end-end-requires
run_end-end-requires c = record { in_range = c.requires.0; runs_together = c.requires.3.runs }

pub loop-j-init : goal.loop-j-init
loop-j-init c =
    let a = c.run_end-end.ensures.after in
    day_none c.args.case.format c.args.case.events.now c.args.leaders.now _ _ c.requires.2 c.requires.3 c.requires.0

pub party_share-share-requires : goal.party_share-share-requires
party_share-share-requires c =
    let w = c.run_end-end.ensures.within in
    (omega arith, omega arith, c.requires.2, c.requires.3)

pub overflow_add-gain : goal.overflow_add-gain
overflow_add-gain c =
    let next : let l = c.loop-j in
    let a = c.args in
    plus (record { gain = l.gain; loss = l.loss; rise = l.rise; fall = l.fall }) c.party_share-share.result
    ≡ party_day a.case.format a.case.events.now a.leaders.now a.mask a.i (l.j + 1) = day_more c.args.case.format c.args.case.events.now c.args.leaders.now _ c.args.i c.requires.2 c.requires.3 _ _ _ c.loop-j.invariant c.party_share-share.ensures in
    let small : let l = c.loop-j in
    SmallDay (plus (record { gain = l.gain; loss = l.loss; rise = l.rise; fall = l.fall }) c.party_share-share.result) = let t = c.loop-j-test.true in
    let w = c.run_end-end.ensures.within in
    rw next (day_small c.args.case.format c.args.case.events.now c.args.leaders.now _ c.args.i c.requires.2 c.requires.3 _ (omega arith) (omega arith)) in
    omega arith

pub overflow_add-loss : goal.overflow_add-loss
overflow_add-loss c =
    let next : let l = c.loop-j in
    let a = c.args in
    plus (record { gain = l.gain; loss = l.loss; rise = l.rise; fall = l.fall }) c.party_share-share.result
    ≡ party_day a.case.format a.case.events.now a.leaders.now a.mask a.i (l.j + 1) = day_more c.args.case.format c.args.case.events.now c.args.leaders.now _ c.args.i c.requires.2 c.requires.3 _ _ _ c.loop-j.invariant c.party_share-share.ensures in
    let small : let l = c.loop-j in
    SmallDay (plus (record { gain = l.gain; loss = l.loss; rise = l.rise; fall = l.fall }) c.party_share-share.result) = let t = c.loop-j-test.true in
    let w = c.run_end-end.ensures.within in
    rw next (day_small c.args.case.format c.args.case.events.now c.args.leaders.now _ c.args.i c.requires.2 c.requires.3 _ (omega arith) (omega arith)) in
    omega arith

pub overflow_add-rise : goal.overflow_add-rise
overflow_add-rise c =
    let next : let l = c.loop-j in
    let a = c.args in
    plus (record { gain = l.gain; loss = l.loss; rise = l.rise; fall = l.fall }) c.party_share-share.result
    ≡ party_day a.case.format a.case.events.now a.leaders.now a.mask a.i (l.j + 1) = day_more c.args.case.format c.args.case.events.now c.args.leaders.now _ c.args.i c.requires.2 c.requires.3 _ _ _ c.loop-j.invariant c.party_share-share.ensures in
    let small : let l = c.loop-j in
    SmallDay (plus (record { gain = l.gain; loss = l.loss; rise = l.rise; fall = l.fall }) c.party_share-share.result) = let t = c.loop-j-test.true in
    let w = c.run_end-end.ensures.within in
    rw next (day_small c.args.case.format c.args.case.events.now c.args.leaders.now _ c.args.i c.requires.2 c.requires.3 _ (omega arith) (omega arith)) in
    omega arith

pub overflow_add-fall : goal.overflow_add-fall
overflow_add-fall c =
    let next : let l = c.loop-j in
    let a = c.args in
    plus (record { gain = l.gain; loss = l.loss; rise = l.rise; fall = l.fall }) c.party_share-share.result
    ≡ party_day a.case.format a.case.events.now a.leaders.now a.mask a.i (l.j + 1) = day_more c.args.case.format c.args.case.events.now c.args.leaders.now _ c.args.i c.requires.2 c.requires.3 _ _ _ c.loop-j.invariant c.party_share-share.ensures in
    let small : let l = c.loop-j in
    SmallDay (plus (record { gain = l.gain; loss = l.loss; rise = l.rise; fall = l.fall }) c.party_share-share.result) = let t = c.loop-j-test.true in
    let w = c.run_end-end.ensures.within in
    rw next (day_small c.args.case.format c.args.case.events.now c.args.leaders.now _ c.args.i c.requires.2 c.requires.3 _ (omega arith) (omega arith)) in
    omega arith

pub loop-j-preserved : goal.loop-j-preserved
loop-j-preserved c =
    let next : let l = c.loop-j in
    let a = c.args in
    plus (record { gain = l.gain; loss = l.loss; rise = l.rise; fall = l.fall }) c.party_share-share.result
    ≡ party_day a.case.format a.case.events.now a.leaders.now a.mask a.i (l.j + 1) = day_more c.args.case.format c.args.case.events.now c.args.leaders.now _ c.args.i c.requires.2 c.requires.3 _ _ _ c.loop-j.invariant c.party_share-share.ensures in
    next

pub returns : goal.returns
returns c =
    let l = c.loop-j in
    let e : l.j ≡ c.run_end-end.result = omega arith in
    l.invariant ∙ ap (party_day c.args.case.format c.args.case.events.now c.args.leaders.now c.args.mask c.args.i) e
    ∙ day_whole c.args.case.format c.args.case.events.now c.args.leaders.now _ _ c.requires.2 c.requires.3 _ c.run_end-end.ensures
