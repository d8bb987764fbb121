use mathlib.Core.Path.{◌≡◌}
use borrow.Author.Rules.{rules}
use borrow.Author.Tests.{tests, eq-eqb, ne_eqb}
use lib.ListN.{length}
use Rattle.binary.specs.Bounded.{any_to}
use Rattle.penalty_calls.specs.SanctionCalls.{bad_hour, bad_hours}
use Rattle.penalty_calls.proofs.sanction_calls.bad_hours.Goals as goal

pub returns-then-n-b : goal.returns-then-n-b
unfolding bad_hours
returns-then-n-b c = simp (ne_eqb _ _ c.if-n-b.true)

pub returns : goal.returns
unfolding bad_hours bad_hour
returns c =
    let bad = bad_hour c.args.a.now c.args.b.now in
    let e : c.any_to-any.result ≡ any_to (length c.args.a.now) bad = c.any_to-any.ensures bad (λ h r l p. search (rules, tests)) in
    simp (e, eq-eqb _ _ c.if-n-b.false)
