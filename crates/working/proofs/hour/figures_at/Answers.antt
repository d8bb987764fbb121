use Prim.Native.Nat.{◌<◌}
use native.Mathlib.Omega.{arith}
use borrow.Author.Rules.{rules}
use Rattle.casefile.specs.Decode.{units_in, events_in, case_in, decode}
use Rattle.casefile.specs.StageRead.{unit_at, event_at}
use Rattle.conduct.specs.Flags.{tight}
use Rattle.conduct.proofs.SumLaws.{cell_amount}
use Rattle.casefile.proofs.RecordLaws.{count_is}
use Rattle.conduct.proofs.FileLaws.{has_section, header_long, file_place}
use Rattle.working.specs.Working.{figures_with}
use Rattle.working.proofs.hour.figures_at.Goals as goal

below : (s : goal.After-of-case) → s.args.i < (events_in s.of-case.result.format s.of-case.result.events.now).count
below s = let q = count_is _ s.args.file.now _ s.of-case.ensures.format s.of-case.ensures.events in omega (arith, s.requires.accepted_file.1)

pub of-case-requires : goal.of-case-requires
of-case-requires c =
    let a = c.requires.accepted_file.0 in
    record { units = has_section _ a 0 (omega arith); references = has_section _ a 1 (omega arith); past = has_section _ a 2 (omega arith); events = has_section _ a 3 (omega arith) }

pub event_at-event-requires : goal.event_at-event-requires
unfolding figures_with tight decode case_in unit_at event_at
event_at-event-requires c = below c

pub unit_at-unit-requires : goal.unit_at-unit-requires
unfolding figures_with tight decode case_in unit_at event_at
unit_at-unit-requires c =
    let placed : c.args.place < (units_in c.of-case.result.format c.of-case.result.units.now).count = let p = c.requires in
    file_place c.args.file.now p.accepted_file.0 _ _ _ c.of-case.ensures.format c.of-case.ensures.units c.of-case.ensures.events _ _ p.place_found p.accepted_file.1 in
    placed

pub event_cells-requires : goal.event_cells-requires
unfolding figures_with tight decode case_in unit_at event_at
event_cells-requires c =
    let below : c.args.i < (events_in c.of-case.result.format c.of-case.result.events.now).count = let q = count_is _ c.args.file.now _ c.of-case.ensures.format c.of-case.ensures.events in omega (arith, c.requires.accepted_file.1) in
    below

pub cell_at-cell-requires : goal.cell_at-cell-requires
unfolding figures_with tight decode case_in unit_at event_at
cell_at-cell-requires c = let l = c.requires.accepted_file.2 in search rules

pub returns : goal.returns
unfolding figures_with tight decode case_in unit_at event_at
returns c =
    rw (
      c.cell_at-cell.ensures,
      c.event_cells.ensures.0,
      c.bit_of-set.ensures,
      c.unit_at-unit.ensures,
      c.event_at-event.ensures,
      c.of-case.ensures.events,
      c.of-case.ensures.units,
      c.of-case.ensures.format,
      c.requires.place_found,
      cell_amount,
    )
