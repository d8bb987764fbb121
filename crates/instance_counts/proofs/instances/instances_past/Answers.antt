use mathlib.Core.Path.{◌≡◌}
use native.Mathlib.Omega.{arith}
use Rattle.binary.proofs.BoundedLaws.{count_none, count_more}
use Rattle.casefile.specs.Decode.{past_in}
use Rattle.instance_counts.specs.StageInstances.{entry_counts, instances_past}
use Rattle.instance_counts.proofs.instances.instances_past.Goals as goal

pub loop-j-init : goal.loop-j-init
unfolding entry_counts instances_past
loop-j-init c = (omega arith, omega arith, count_none _, count_none _)

pub loop-j-preserved : goal.loop-j-preserved
unfolding entry_counts instances_past
loop-j-preserved c =
    let l = c.loop-j in (
      omega arith,
      omega arith,
      rw (l.invariant.2, c.one_where-three.ensures.0, c.period_counts.ensures, c.entry_period-its_period.ensures, c.is_entry-same.ensures, count_more),
      rw (l.invariant.3, c.one_where-two.ensures.0, c.period_counts-in-loop-j.ensures, c.entry_period-its_period.ensures, c.is_entry-same.ensures, count_more),
    )

pub returns : goal.returns
unfolding entry_counts instances_past
returns c =
    let s = c.args in
    let l = c.loop-j in
    let e : l.j ≡ (past_in s.case.past.now).count = omega arith in
    rw (l.invariant.2, l.invariant.3, e)
