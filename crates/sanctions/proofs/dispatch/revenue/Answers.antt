use Rattle.std.proofs.Common.{arith, rules}
use Rattle.sanctions.specs.StageTables.{hour_revenue}
use Rattle.sanctions.proofs.dispatch.revenue.Goals as goal

pub sum_to-requires-clause-fits : goal.sum_to-requires-clause-fits
sum_to-requires-clause-fits c = (4294967295, (λ h r l p. search rules), omega arith)

pub returns : goal.returns
returns c =
    let most = c.sum_to.ensures.within 4294967295 (λ h r l p. search rules) in
    (c.sum_to.ensures.value (hour_revenue c.args.cells.now c.args.mask) (λ h r l p. search rules), omega (arith, most))
