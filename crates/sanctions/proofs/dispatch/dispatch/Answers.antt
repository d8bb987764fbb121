use mathlib.Core.Path.{sym, ◌∙◌}
use Rattle.sanctions.proofs.TableLaws.{none_given}
use Rattle.sanctions.specs.StageTables.{no_sanction, dispatch_row}
use Rattle.sanctions.proofs.dispatch.dispatch.Goals as goal

pub returns-then-not-with_impact : goal.returns-then-not-with_impact
unfolding dispatch_row no_sanction
returns-then-not-with_impact c = rw (sym c.with_impact.ensures ∙ c.if-not-with_impact.true) (none_given c.default.result c.default.ensures)

pub dispatch_penalty-penalty-requires : goal.dispatch_penalty-penalty-requires
unfolding dispatch_row no_sanction
dispatch_penalty-penalty-requires c = c.revenue.ensures.1

pub returns : goal.returns
unfolding dispatch_row no_sanction
returns c =
    rw (
      sym c.with_impact.ensures ∙ c.if-not-with_impact.false,
      c.dispatch_penalty-penalty.ensures,
      c.revenue.ensures.0,
      c.event_cells-cells.ensures.0,
    )
