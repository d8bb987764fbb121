use mathlib.Core.Bool.{false, true}
use mathlib.Core.Path.{◌≡◌}
use Rattle.binary.specs.Bounded.{mask_to}
use Rattle.casefile.specs.Layout.{most_hours}
use Rattle.hour_masks.proofs.HourLaws.{shares_in, shares_joined, shares_loose}
use Rattle.hour_masks.proofs.megawatt_hours.over_shares.Goals as goal

near : (c : goal.After-either_over-near) →
    let a = c.args in
    c.either_over-near.result ≡ mask_to most_hours (shares_in a.column.now a.sums.now a.unit a.group true)
near c = rw (c.min-2.ensures, c.group_limit-2.ensures, c.unit_line-2.ensures) at c.either_over-near.ensures

pub returns-then-tight-eq0 : goal.returns-then-tight-eq0
returns-then-tight-eq0 c =
    let far : let a = c.args in
    c.either_over-far.result ≡ mask_to most_hours (shares_in a.column.now a.sums.now a.unit a.group false) = rw (c.min.ensures, c.group_limit.ensures, c.unit_line.ensures) at c.either_over-far.ensures in
    shares_loose _ _ _ _ _ _ _ c.if-tight-eq0.true far

pub returns : goal.returns
returns c =
    let far : let a = c.args in
    c.either_over-far.result ≡ mask_to most_hours (shares_in a.column.now a.sums.now a.unit a.group false) = rw (c.min.ensures, c.group_limit.ensures, c.unit_line.ensures) at c.either_over-far.ensures in
    shares_joined _ _ _ _ _ _ _ _ far (near c)
