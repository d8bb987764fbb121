use Rattle.std.proofs.Common.{arith, rules, ◌≡◌}
use Rattle.binary.specs.Bounded.{sum_to}
use Rattle.casefile.specs.Decode.{units_in}
use Rattle.conduct.specs.StageFlags.{capability_of, capability_share}
use Rattle.conduct.proofs.sums.group_capability.Goals as goal

pub sum_to-requires-clause-fits : goal.sum_to-requires-clause-fits
sum_to-requires-clause-fits c = (4294967295, (λ i r l p. search rules), omega arith)

pub returns : goal.returns
unfolding capability_of
returns c =
    let share = capability_share (units_in c.args.case.format c.args.case.units.now) c.args.group in
    let e : c.sum_to.result ≡ sum_to c.unit_count.result share = c.sum_to.ensures.value share (λ i r l p. search rules) in
    rw c.unit_count.ensures.0 at e
