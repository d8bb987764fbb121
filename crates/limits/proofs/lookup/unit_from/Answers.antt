use Prim.Native.Nat.{ℕ, ◌+◌}
use mathlib.Core.Path.{◌≡◌, sym, ap}
use native.Mathlib.Nat.{le_refl, not-suc-le-zero}
use native.Mathlib.Omega.{arith}
use lib.Dec.{ltb}
use Rattle.casefile.specs.Decode.{units_in}
use Rattle.limits.specs.StageLookup.{Between}
use Rattle.limits.proofs.SearchLaws.{count_turn}
use Rattle.limits.proofs.lookup.unit_from.Goals as goal

-- one more counted
turn : (c : goal.After-choose-at) →
    let l = c.loop-k in
    let s = c.args in
    Between (units_in s.case.format s.case.units.now).number (l.k + 1) s.number (l.at + c.choose-at.result) (l.at + c.choose-at.result)
turn c =
    let l = c.loop-k in
    rw c.choose-at.ensures
    (count_turn (units_in c.args.case.format c.args.case.units.now).number (units_in c.args.case.format c.args.case.units.now).count c.args.number l.k l.at c.requires
    (omega arith) l.invariant _ (ap (λ (x : ℕ). ltb x c.args.number) (sym c.unit_number.ensures)))

pub loop-k-init : goal.loop-k-init
loop-k-init c =
    record { order = le_refl _; end = le_refl _; before = λ j l. absurd (not-suc-le-zero l); after = λ j g l. absurd (not-suc-le-zero l) }

pub overflow_add-at : goal.overflow_add-at
overflow_add-at c = omega (arith, (turn c).end)

pub loop-k-preserved : goal.loop-k-preserved
loop-k-preserved c = turn c

pub returns : goal.returns
returns c =
    let l = c.loop-k in
    let s = c.args in
    let e : l.k ≡ (units_in s.case.format s.case.units.now).count = omega arith in
    rw e at l.invariant
