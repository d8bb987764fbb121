use Rattle.std.proofs.Common.{rules, ℕ, ◌+◌, ◌*◌}
use Rattle.counted_instances.specs.CountedInstances.{byte_of}
use Rattle.counted_instances.specs.StageCounted.{event_counted}
use Rattle.counted_instances.proofs.instance_bits.event_byte.Goals as goal

pub returns : goal.returns
unfolding byte_of
returns c =
    let a = c.args in
    let counted = λ (t : ℕ). event_counted a.case.format a.case.events.now a.groups.now a.masks.now a.k a.i (8 * a.b + t) in
    c.mask_to.ensures.value counted (λ t r l p. search rules)
