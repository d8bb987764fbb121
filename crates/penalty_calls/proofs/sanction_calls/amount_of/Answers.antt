use Rattle.std.proofs.Common.{arith, rules, ◌≡◌, ◌*◌}
use Rattle.tariff.specs.Ranges.{highest_capability, highest_price}
use Rattle.penalty_calls.specs.SanctionCalls.{amount_at}
use Rattle.penalty_calls.proofs.ArgumentLaws.{fine_hours}
use Rattle.penalty_calls.proofs.sanction_calls.amount_of.Goals as goal

pub sum_to-requires-clause-callable : goal.sum_to-requires-clause-callable
sum_to-requires-clause-callable c = λ h l. omega (arith, l, (fine_hours c.args.a.now c.args.b.now c.requires).same)

pub sum_to-requires-clause-fits : goal.sum_to-requires-clause-fits
unfolding amount_at
sum_to-requires-clause-fits c =
    let q = fine_hours c.args.a.now c.args.b.now c.requires in (
      highest_capability * highest_price,
      (λ h r l p.
          let e : r ≡ amount_at c.args.a.now c.args.b.now h = search rules in
          rw e (q.amount h l)),
      omega (arith, q.few),
    )

pub returns : goal.returns
unfolding amount_at
returns c =
    let q = fine_hours c.args.a.now c.args.b.now c.requires in
    let most =
    c.sum_to.ensures.within (highest_capability * highest_price)
    (λ h r l p.
    let e : r ≡ amount_at c.args.a.now c.args.b.now h = search rules in
    rw e (q.amount h l)) in
    (c.sum_to.ensures.value (amount_at c.args.a.now c.args.b.now) (λ h r l p. search rules), omega (arith, most, q.few))
