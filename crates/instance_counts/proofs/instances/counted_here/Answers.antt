use mathlib.Core.Path.{◌≡◌}
use native.Mathlib.Omega.{arith}
use Rattle.binary.proofs.BoundedLaws.{count_none, count_more}
use Rattle.instance_counts.specs.StageInstances.{row_counts, instances_here}
use Rattle.instance_counts.proofs.instances.counted_here.Goals as goal

pub loop-j-init : goal.loop-j-init
unfolding row_counts instances_here
loop-j-init c = (omega arith, omega arith, count_none _, count_none _)

pub loop-j-preserved : goal.loop-j-preserved
unfolding row_counts instances_here
loop-j-preserved c =
    let l = c.loop-j in (
      omega arith,
      omega arith,
      rw (l.invariant.2, c.one_where-three.ensures.0, c.period_counts.ensures, c.period_of-its_period.ensures, c.is_instance_of-same.ensures, count_more),
      rw (l.invariant.3, c.one_where-two.ensures.0, c.period_counts-in-loop-j.ensures, c.period_of-its_period.ensures, c.is_instance_of-same.ensures, count_more),
    )

pub returns : goal.returns
unfolding row_counts instances_here
returns c =
    let s = c.args in
    let l = c.loop-j in
    let e : l.j ≡ s.i = omega arith in
    rw (l.invariant.2, l.invariant.3, e)
