use mathlib.Core.Bool.{and-true}
use borrow.Author.Rules.{rules}
use borrow.Author.Tests.{tests}
use Rattle.limits.specs.Refusal.{cell_fine}
use Rattle.event_check.specs.StageReading.{cell_fine_at}
use Rattle.event_check.proofs.cell_limits.fuel_cells.Goals as goal

pub returns : goal.returns
unfolding cell_fine_at cell_fine
returns c = c.all_to.ensures (cell_fine_at 3 0 c.args.cells.now) (λ h r l p. search (rules, tests, and-true))
