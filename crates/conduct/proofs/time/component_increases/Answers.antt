use mathlib.Core.Path.{refl}
use borrow.Author.Rules.{rules}
use native.Mathlib.Omega.{arith}
use Rattle.casefile.specs.Layout.{most_hours}
use Rattle.conduct.proofs.TimeLaws.{far, increases_none, increases_more, increases_all, small_increases}
use Rattle.conduct.proofs.time.component_increases.Goals as goal

pub loop-j-init : goal.loop-j-init
loop-j-init c =
    let end = c.third_after-end.ensures in
    let first = c.place_before.ensures in
    let second = c.place_before-j.ensures in (
      refl,
      increases_none c.args.case.format c.args.case.events.now c.args.levels.now c.args.i c.args.component _ most_hours
          (λ j l.
          far c.args.case.format c.args.case.events.now c.args.i c.args.component c.requires.bids_in_order.0 c.requires.in_range.0 c.requires.bids_in_order.1 j (omega arith)
          (λ q. let z : ⊥ = omega arith in z)),
    )

pub add_increases-requires : goal.add_increases-requires
add_increases-requires c =
    let l = c.loop-j in
    let end = c.third_after-end.ensures in
    let a = c.args in
    record { whole_row = (l.invariant.0, omega arith); small_row = small_increases a.case.format a.case.events.now a.levels.now a.i a.component l.row l.j (omega arith) l.invariant.1 }

pub loop-j-preserved : goal.loop-j-preserved
loop-j-preserved c =
    let l = c.loop-j in
    let a = c.args in (
      search rules,
      increases_more a.case.format a.case.events.now a.levels.now a.i a.component l.row c.add_increases.new.row l.j _ l.invariant.1
          c.component_bid-counts.ensures c.add_increases.ensures,
    )

pub returns : goal.returns
returns c =
    let l = c.loop-j in
    let end = c.third_after-end.ensures in
    increases_all c.args.case.format c.args.case.events.now c.args.levels.now c.args.i c.args.component l.row l.j _ (omega arith)
    (λ j a b.
    far c.args.case.format c.args.case.events.now c.args.i c.args.component c.requires.bids_in_order.0 c.requires.in_range.0 c.requires.bids_in_order.1 j b
    (λ q. let z : ⊥ = omega arith in z))
    l.invariant.1
