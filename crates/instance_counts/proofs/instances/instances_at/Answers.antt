use Prim.Native.Nat.{◌≤◌}
use mathlib.Core.Path.{sym, ◌∙◌}
use native.Mathlib.Omega.{arith}
use Rattle.binary.proofs.BoundedLaws.{count_bound}
use Rattle.casefile.specs.Decode.{past_in}
use Rattle.casefile.specs.StageRead.{event_at}
use Rattle.instance_counts.specs.StageInstances.{instances_here, instances_past, instances_at}
use Rattle.instance_counts.proofs.instances.instances_at.Goals as goal

pub returns-then-not-is_instance : goal.returns-then-not-is_instance
unfolding event_at instances_at
returns-then-not-is_instance c = rw (sym c.is_instance.ensures ∙ c.if-not-is_instance.true)

pub overflow_add-result : goal.overflow_add-result
unfolding event_at instances_at instances_here
overflow_add-result c =
    let here : let i = c.args.i in
    (c.instances_here-here.result.n3 ≤ i) × (c.instances_here-here.result.n2 ≤ i) = rw c.instances_here-here.ensures (count_bound _ _, count_bound _ _) in
    omega arith

pub overflow_add-result-2 : goal.overflow_add-result-2
unfolding event_at instances_at instances_here instances_past
overflow_add-result-2 c =
    let here : let i = c.args.i in
    (c.instances_here-here.result.n3 ≤ i) × (c.instances_here-here.result.n2 ≤ i) = rw c.instances_here-here.ensures (count_bound _ _, count_bound _ _) in
    let outside : let n = (past_in c.args.case.past.now).count in
    (c.instances_past-before.result.n3 ≤ n) × (c.instances_past-before.result.n2 ≤ n) = rw c.instances_past-before.ensures (count_bound _ _, count_bound _ _) in
    omega arith

pub overflow_add-result-3 : goal.overflow_add-result-3
unfolding event_at instances_at instances_here
overflow_add-result-3 c =
    let here : let i = c.args.i in
    (c.instances_here-here.result.n3 ≤ i) × (c.instances_here-here.result.n2 ≤ i) = rw c.instances_here-here.ensures (count_bound _ _, count_bound _ _) in
    omega arith

pub overflow_add-result-4 : goal.overflow_add-result-4
unfolding event_at instances_at instances_here instances_past
overflow_add-result-4 c =
    let here : let i = c.args.i in
    (c.instances_here-here.result.n3 ≤ i) × (c.instances_here-here.result.n2 ≤ i) = rw c.instances_here-here.ensures (count_bound _ _, count_bound _ _) in
    let outside : let n = (past_in c.args.case.past.now).count in
    (c.instances_past-before.result.n3 ≤ n) × (c.instances_past-before.result.n2 ≤ n) = rw c.instances_past-before.ensures (count_bound _ _, count_bound _ _) in
    omega arith

pub returns : goal.returns
unfolding event_at instances_at
returns c =
    rw (
      sym c.is_instance.ensures ∙ c.if-not-is_instance.false,
      c.instances_past-before.ensures,
      c.instances_here-here.ensures,
      c.event_at-event.ensures,
    )
