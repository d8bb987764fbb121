use Prim.Native.Nat.{◌*◌}
use mathlib.Core.List.{[]}
use mathlib.Core.Path.{◌≡◌}
use native.Mathlib.Omega.{arith}
use Rattle.casefile.specs.Layout.{most_hours}
use Rattle.conduct.proofs.SumLaws.{zeros_at, led_first, led_more, led_last, added_bound, counted_figure_le, figure_le}
use Rattle.conduct.proofs.sums.party_sums.Goals as goal

pub loop-j-init : goal.loop-j-init
loop-j-init c =
    ((λ k. omega (arith, zeros_at most_hours k)), led_first _ _ _ _ _ c.requires.party_within (omega arith))

pub loop-j-preserved : goal.loop-j-preserved
loop-j-preserved c =
    let l = c.loop-j in
    let a = c.args in
    let more = c.add_event.ensures in (
      (λ k.
          omega (
            arith,
            added_bound most_hours (4294967295 * l.j) 4294967295 _ _ _ more l.invariant.0
                (counted_figure_le _ 4294967295 most_hours _ (λ h b. figure_le a.case.format [] [] [] a.case.events.now l.j h a.case.bytes)) k,
          )),
      led_more _ _ _ _ _ _ l.invariant.1 more,
    )

pub returns : goal.returns
returns c =
    let l = c.loop-j in
    let e : l.j ≡ c.args.end = omega arith in
    record { has_row = led_last _ _ _ _ _ c.requires.party_within _ (omega arith) (rw e at l.invariant.1); small_row = (λ h b. omega (arith, l.invariant.0 h)) }
