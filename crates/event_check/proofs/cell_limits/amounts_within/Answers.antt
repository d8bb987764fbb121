use mathlib.Core.Bool.{and-true}
use borrow.Author.Rules.{rules}
use borrow.Author.Tests.{tests}
use Rattle.event_check.specs.StageReading.{amount_within}
use Rattle.event_check.proofs.cell_limits.amounts_within.Goals as goal

pub returns : goal.returns
unfolding amount_within
returns c = c.all_to.ensures (amount_within c.args.capability c.args.cells.now) (λ h r l p. search (rules, tests, and-true))
