use borrow.Author.Tests.{lt-ltb, le-ltb}
use native.Mathlib.Omega.{arith}
use Rattle.casefile.specs.StageRead.{event_at}
use Rattle.instance_counts.specs.StageInstances.{row_counts}
use Rattle.counted_instances.specs.StageCounted.{event_counted}
use Rattle.counted_instances.proofs.instance_bits.event_counted.Goals as goal

pub is_instance_of-same-requires : goal.is_instance_of-same-requires
unfolding event_counted row_counts event_at
is_instance_of-same-requires c = let p = c.requires in (omega (arith, p.0, c.if-j-i.true), omega (arith, p.1, c.if-j-i.true))

pub period_of-requires : goal.period_of-requires
unfolding event_counted row_counts event_at
period_of-requires c = omega (arith, c.requires.0, c.if-j-i.true)

pub returns-then-j-i : goal.returns-then-j-i
unfolding event_counted row_counts event_at
returns-then-j-i c =
    rw (
      lt-ltb _ _ c.if-j-i.true,
      c.period_counts-near.ensures,
      c.period_of.ensures,
      c.is_instance_of-same.ensures,
      c.is_instance-own.ensures,
      c.event_at-event.ensures,
    )

pub returns : goal.returns
unfolding event_counted row_counts event_at
returns c = rw (le-ltb _ _ c.if-j-i.false)
