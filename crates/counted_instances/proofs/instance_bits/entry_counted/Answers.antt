use borrow.Author.Tests.{lt-ltb, le-ltb}
use native.Mathlib.Omega.{arith}
use Rattle.casefile.specs.StageRead.{event_at}
use Rattle.instance_counts.specs.StageInstances.{entry_counts}
use Rattle.counted_instances.specs.StageCounted.{entry_counted}
use Rattle.counted_instances.proofs.instance_bits.entry_counted.Goals as goal

pub is_entry-same-requires : goal.is_entry-same-requires
unfolding entry_counted entry_counts event_at
is_entry-same-requires c = omega (arith, c.if-j-entry_count.true, c.entry_count.ensures)

pub entry_period-requires : goal.entry_period-requires
unfolding entry_counted entry_counts event_at
entry_period-requires c = omega (arith, c.if-j-entry_count.true, c.entry_count.ensures)

pub returns-then-j-entry_count : goal.returns-then-j-entry_count
unfolding entry_counted entry_counts event_at
returns-then-j-entry_count c =
    rw (
      ← c.entry_count.ensures,
      lt-ltb _ _ c.if-j-entry_count.true,
      c.period_counts-near.ensures,
      c.entry_period.ensures,
      c.is_entry-same.ensures,
      c.is_instance-own.ensures,
      c.event_at-event.ensures,
    )

pub returns : goal.returns
unfolding entry_counted entry_counts event_at
returns c = rw (← c.entry_count.ensures, le-ltb _ _ c.if-j-entry_count.false)
