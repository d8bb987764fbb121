use Prim.Native.Nat.{◌≤◌, ◌<◌}
use mathlib.Core.Path.{refl, ◌∙◌}
use native.Mathlib.Omega.{arith}
use Rattle.casefile.specs.Layout.{most_events}
use Rattle.casefile.specs.Decode.{events_in}
use Rattle.casefile.proofs.RecordLaws.{count_is}
use Rattle.conduct.proofs.FileLaws.{has_section, header_long, file_few}
use Rattle.subtotal.proofs.PartLaws.{small, part_is}
use Rattle.subtotal.proofs.subtotal_call.part_at.Goals as goal

below : (s : goal.After-of-case) → s.args.i < (events_in s.of-case.result.format s.of-case.result.events.now).count
below s = let q = count_is _ s.args.file.now _ s.of-case.ensures.format s.of-case.ensures.events in omega (arith, s.requires.accepted_file.1)

pub find_flags-requires : goal.find_flags-requires
find_flags-requires c = let p = c.requires in record { accepted_file = p.accepted_file.0; places_found = p.places_found; levels_found = p.levels_found }

pub of-case-requires : goal.of-case-requires
of-case-requires c =
    let a = c.requires.accepted_file.0 in
    record { units = has_section _ a 0 (omega arith); references = has_section _ a 1 (omega arith); past = has_section _ a 2 (omega arith); events = has_section _ a 3 (omega arith) }

pub event_at-event-requires : goal.event_at-event-requires
event_at-event-requires c = below c

pub event_cells-cells-requires : goal.event_cells-cells-requires
event_cells-cells-requires c =
    let below : c.args.i < (events_in c.of-case.result.format c.of-case.result.events.now).count = let q = count_is _ c.args.file.now _ c.of-case.ensures.format c.of-case.ensures.events in omega (arith, c.requires.accepted_file.1) in
    below

pub offset_bounds-masks-i : goal.offset_bounds-masks-i
offset_bounds-masks-i c =
    let below : c.args.i < (events_in c.of-case.result.format c.of-case.result.events.now).count = let q = count_is _ c.args.file.now _ c.of-case.ensures.format c.of-case.ensures.events in omega (arith, c.requires.accepted_file.1) in
    let few : (events_in c.of-case.result.format c.of-case.result.events.now).count ≤ most_events = file_few c.args.file.now c.requires.accepted_file.0 _ _ _ c.of-case.ensures.format refl c.of-case.ensures.events in
    let inside : c.args.i < most_events = omega (arith, below, few) in
    omega arith

pub bounds-masks-i : goal.bounds-masks-i
bounds-masks-i c =
    let below : c.args.i < (events_in c.of-case.result.format c.of-case.result.events.now).count = let q = count_is _ c.args.file.now _ c.of-case.ensures.format c.of-case.ensures.events in omega (arith, c.requires.accepted_file.1) in
    let few : (events_in c.of-case.result.format c.of-case.result.events.now).count ≤ most_events = file_few c.args.file.now c.requires.accepted_file.0 _ _ _ c.of-case.ensures.format refl c.of-case.ensures.events in
    let inside : c.args.i < most_events = omega (arith, below, few) in
    inside

pub part_over-requires : goal.part_over-requires
part_over-requires c =
    let p = c.requires.accepted_file in (
      c.event_cells-cells.ensures.1,
      rw c.event_cells-cells.ensures.0 (small c.args.file.now p.0 c.args.i p.1 p.2 _ _ c.of-case.ensures.format c.of-case.ensures.events),
    )

pub returns : goal.returns
returns c =
    let p = c.requires.accepted_file in
    c.part_over.ensures
    ∙ part_is c.args.file.now p.0 c.args.i p.1 p.2 _ _ c.of-case.ensures.format c.of-case.ensures.events _ _ _
    c.event_at-event.ensures c.event_cells-cells.ensures.0 (c.find_flags.ensures.flagged c.args.i p.1)
