use borrow.Author.Tests.{eq-eqb, ne_eqb}
use Rattle.casefile.specs.StageRead.{event_at}
use Rattle.sanctions.specs.StageTables.{energy_of, led_by, party_share}
use Rattle.sanctions.proofs.TableLaws.{led_amounts}
use Rattle.sanctions.proofs.fuel.party_share.Goals as goal

pub returns-then-leaders-j : goal.returns-then-leaders-j
unfolding event_at party_share led_by energy_of
returns-then-leaders-j c = rw (ne_eqb _ _ c.if-leaders-j.true)

pub event_energy-e-requires : goal.event_energy-e-requires
unfolding event_at party_share led_by energy_of
event_energy-e-requires c = (
  c.event_cells-cells.ensures.1,
  rw c.event_cells-cells.ensures.0
      (led_amounts c.args.case.format c.args.case.events.now c.args.leaders.now _ _ c.requires.2 c.requires.3 c.requires.0 c.if-leaders-j.false),
)

pub returns : goal.returns
unfolding event_at party_share led_by energy_of
returns c =
    rw (
      eq-eqb _ _ c.if-leaders-j.false,
      c.from-fall.ensures,
      c.negative_part.ensures,
      c.from-rise.ensures,
      c.positive_part.ensures,
      c.event_energy-e.ensures,
      c.event_cells-cells.ensures.0,
      c.event_at-event.ensures,
    )
