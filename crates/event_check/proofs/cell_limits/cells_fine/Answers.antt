use Rattle.limits.specs.Refusal.{cell_fine}
use Rattle.event_check.specs.StageReading.{cell_fine_at}
use Rattle.event_check.proofs.EventLaws.{other_kind}
use Rattle.event_check.proofs.cell_limits.cells_fine.Goals as goal

pub returns-then-kind-eq1 : goal.returns-then-kind-eq1
unfolding cell_fine_at cell_fine
returns-then-kind-eq1 c = rw c.if-kind-eq1.true c.withheld_cells.ensures

pub returns-then-kind-eq2 : goal.returns-then-kind-eq2
unfolding cell_fine_at cell_fine
returns-then-kind-eq2 c = rw c.if-kind-eq2.true c.dispatch_cells.ensures

pub returns-then-kind-eq3 : goal.returns-then-kind-eq3
unfolding cell_fine_at cell_fine
returns-then-kind-eq3 c = rw c.if-kind-eq3.true c.fuel_cells.ensures

pub returns-then-kind-eq4 : goal.returns-then-kind-eq4
unfolding cell_fine_at cell_fine
returns-then-kind-eq4 c = rw c.if-kind-eq4.true c.bid_cells.ensures

pub returns : goal.returns
unfolding cell_fine_at cell_fine
returns c = other_kind _ _ _ c.if-kind-eq1.false c.if-kind-eq2.false c.if-kind-eq3.false c.if-kind-eq4.false
