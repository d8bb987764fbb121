use Rattle.std.proofs.Common.{arith, rules, ◌≡◌}
use Rattle.tariff.specs.Ranges.{highest_revenue}
use Rattle.penalty_calls.specs.SanctionCalls.{revenue_at}
use Rattle.penalty_calls.proofs.ArgumentLaws.{fine_revenues}
use Rattle.penalty_calls.proofs.sanction_calls.revenue_of.Goals as goal

pub sum_to-requires-clause-fits : goal.sum_to-requires-clause-fits
unfolding revenue_at
sum_to-requires-clause-fits c =
    let q = fine_revenues c.args.b.now c.requires in (
      highest_revenue,
      (λ h r l p.
          let e : r ≡ revenue_at c.args.b.now h = search rules in
          rw e (q.revenue h l)),
      omega (arith, q.few),
    )

pub returns : goal.returns
unfolding revenue_at
returns c =
    let q = fine_revenues c.args.b.now c.requires in
    let most =
    c.sum_to.ensures.within highest_revenue
    (λ h r l p.
    let e : r ≡ revenue_at c.args.b.now h = search rules in
    rw e (q.revenue h l)) in
    (c.sum_to.ensures.value (revenue_at c.args.b.now) (λ h r l p. search rules), omega (arith, most, q.few))
