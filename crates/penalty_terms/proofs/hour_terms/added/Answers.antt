use Rattle.std.proofs.Common.{arith, rules, ◌≡◌, get_or}
use Rattle.penalty_terms.specs.StageTerms.{highest_term}
use Rattle.penalty_terms.proofs.hour_terms.added.Goals as goal

pub sum_to-requires-clause-fits : goal.sum_to-requires-clause-fits
sum_to-requires-clause-fits c =
    (highest_term, (λ h r l p. let e : r ≡ get_or c.args.terms h 0 = search rules in rw e (c.requires h l)), omega arith)
