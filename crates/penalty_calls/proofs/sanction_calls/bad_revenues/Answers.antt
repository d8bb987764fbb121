use mathlib.Core.Path.{◌≡◌}
use borrow.Author.Rules.{rules}
use borrow.Author.Tests.{tests}
use lib.ListN.{length}
use Rattle.binary.specs.Bounded.{any_to}
use Rattle.penalty_calls.specs.SanctionCalls.{bad_revenue, bad_revenues}
use Rattle.penalty_calls.proofs.sanction_calls.bad_revenues.Goals as goal

pub returns : goal.returns
unfolding bad_revenues bad_revenue
returns c =
    let bad = bad_revenue c.args.b.now in
    let e : c.any_to-any.result ≡ any_to (length c.args.b.now) bad = c.any_to-any.ensures bad (λ h r l p. search (rules, tests)) in
    rw e
