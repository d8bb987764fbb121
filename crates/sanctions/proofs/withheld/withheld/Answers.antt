use borrow.Author.Tests.{eq-eqb, ne_eqb}
use Rattle.sanctions.proofs.TableLaws.{none_given}
use Rattle.sanctions.specs.StageTables.{no_sanction, instance_row, withheld_row}
use Rattle.sanctions.proofs.withheld.withheld.Goals as goal

pub returns-then-n3-eq0 : goal.returns-then-n3-eq0
unfolding withheld_row instance_row no_sanction
returns-then-n3-eq0 c = rw (← c.instances_at-counts.ensures, eq-eqb _ 0 c.if-n3-eq0.true) (none_given c.default.result c.default.ensures)

pub amount-requires : goal.amount-requires
unfolding withheld_row instance_row no_sanction
amount-requires c =
    (c.event_cells-cells.ensures.1, rw c.event_cells-cells.ensures.0 c.requires.3)

pub withheld_penalty-penalty-requires : goal.withheld_penalty-penalty-requires
unfolding withheld_row instance_row no_sanction
withheld_penalty-penalty-requires c = c.amount.ensures.1

pub returns : goal.returns
unfolding withheld_row instance_row no_sanction
returns c =
    rw (
      ← c.instances_at-counts.ensures,
      ne_eqb _ 0 c.if-n3-eq0.false,
      c.withheld_penalty-penalty.ensures,
      c.amount.ensures.0,
      c.event_cells-cells.ensures.0,
      c.ladder-multiplier.ensures,
    )
