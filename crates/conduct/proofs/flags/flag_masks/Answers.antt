use Prim.Native.Nat.{◌<◌}
use mathlib.Core.List.{[]}
use mathlib.Core.Path.{◌≡◌}
use native.Mathlib.Omega.{arith}
use Rattle.casefile.specs.Decode.{events_in}
use Rattle.party_runs.proofs.PartyLaws.{run_end_next}
use Rattle.party_runs.proofs.StageLaws.{place_in}
use Rattle.conduct.specs.StageFlags.{bid_mask}
use Rattle.conduct.proofs.TimeLaws.{totals_first, totals_next}
use Rattle.conduct.proofs.FlagLaws.{flags_none, flags_turn, bid_flags, flags_all}
use Rattle.conduct.proofs.flags.flag_masks.Goals as goal

pub loop-i-init : goal.loop-i-init
unfolding bid_mask
loop-i-init c = (totals_first _ _, (λ z. absurd (let o : ⊥ = omega arith in o)), flags_none _ _ _ _ _ _)

pub bid_mask-bid-requires : goal.bid_mask-bid-requires
unfolding bid_mask
bid_mask-bid-requires c =
    let inside : let a = c.args in c.loop-i.i < (events_in a.case.format a.case.events.now).count = omega arith in
    let f = c.requires.led in
    (inside, place_in _ _ [] [] _ c.args.places.now _ inside f.listed f.placed)

pub loop-i-preserved : goal.loop-i-preserved
unfolding bid_mask
loop-i-preserved c =
    let inside : let a = c.args in c.loop-i.i < (events_in a.case.format a.case.events.now).count = omega arith in
    let f = c.requires.led in
    let row = c.bid_totals-totals.ensures in (
      totals_next _ _ _ _ row,
      run_end_next _ _ _ c.carried_end-end.ensures,
      flags_turn _ _ _ _ _ _ _ f _ inside c.loop-i.invariant.2 _ _
          (λ k. bid_flags _ _ _ _ _ _ _ _ k (f.placed _ inside) row (rw k at c.bid_mask-bid.ensures)) c.leader_flags.ensures,
    )

pub returns : goal.returns
unfolding bid_mask
returns c =
    let l = c.loop-i in
    let e : l.i ≡ (events_in c.args.case.format c.args.case.events.now).count = omega arith in
    flags_all _ _ _ _ _ _ _ c.requires.led (rw e at l.invariant.2)
