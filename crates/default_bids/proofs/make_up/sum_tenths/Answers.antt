use Rattle.std.proofs.Common.{arith, rules}
use Rattle.default_bids.specs.StageFigures.{tenths_at, highest_tenths}
use Rattle.default_bids.proofs.make_up.sum_tenths.Goals as goal

pub sum_to-requires-clause-fits : goal.sum_to-requires-clause-fits
sum_to-requires-clause-fits c = (highest_tenths, (λ h r l p. search rules), omega arith)

pub returns : goal.returns
returns c =
    let most = c.sum_to.ensures.within highest_tenths (λ h r l p. search rules) in
    (c.sum_to.ensures.value (tenths_at c.args.cells.now c.args.correct c.args.mitigated) (λ h r l p. search rules), omega (arith, most))
