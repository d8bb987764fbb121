use Prim.Native.Nat.{◌≤◌, ◌<◌}
use mathlib.Core.Path.{◌≡◌, refl, sym, ◌∙◌}
use native.Mathlib.Omega.{arith}
use Rattle.casefile.specs.Layout.{most_events}
use Rattle.casefile.specs.Decode.{events_in, decode}
use Rattle.casefile.proofs.RecordLaws.{count_is, kind_here, kind_of}
use Rattle.conduct.proofs.FileLaws.{has_section, header_long, file_few}
use Rattle.sanctions.specs.StageGiven.{Sound}
use Rattle.penalty_terms.proofs.TermLaws.{sound, row_below, fuel_ready, working_made}
use Rattle.penalty_terms.proofs.penalty_working.working_of.Goals as goal

below : (s : goal.After-of-case) → s.args.i < (events_in s.of-case.result.format s.of-case.result.events.now).count
below s = let q = count_is _ s.args.file.now _ s.of-case.ensures.format s.of-case.ensures.events in omega (arith, s.requires.accepted_file.1)

-- the row that bears the penalty is one of the file
row : (c : goal.After-choose-row) → c.choose-row.result < (decode c.args.file.now).events.count
row c =
    rw c.choose-row.ensures (row_below c.args.file.now c.requires.accepted_file.0 _ _ _ c.requires.found_masks c.args.i c.requires.accepted_file.1 c.event_at-event.result.kind)

pub of-case-requires : goal.of-case-requires
of-case-requires c =
    let a = c.requires.accepted_file.0 in
    record { units = has_section _ a 0 (omega arith); references = has_section _ a 1 (omega arith); past = has_section _ a 2 (omega arith); events = has_section _ a 3 (omega arith) }

pub event_at-event-requires : goal.event_at-event-requires
event_at-event-requires c = below c

pub offset_bounds-leaders-i : goal.offset_bounds-leaders-i
offset_bounds-leaders-i c =
    let below : c.args.i < (events_in c.of-case.result.format c.of-case.result.events.now).count = let q = count_is _ c.args.file.now _ c.of-case.ensures.format c.of-case.ensures.events in omega (arith, c.requires.accepted_file.1) in
    let few : (events_in c.of-case.result.format c.of-case.result.events.now).count ≤ most_events = file_few c.args.file.now c.requires.accepted_file.0 _ _ _ c.of-case.ensures.format refl c.of-case.ensures.events in
    let inside : c.args.i < most_events = omega (arith, below, few) in
    omega arith

pub bounds-leaders-i : goal.bounds-leaders-i
bounds-leaders-i c =
    let below : c.args.i < (events_in c.of-case.result.format c.of-case.result.events.now).count = let q = count_is _ c.args.file.now _ c.of-case.ensures.format c.of-case.ensures.events in omega (arith, c.requires.accepted_file.1) in
    let few : (events_in c.of-case.result.format c.of-case.result.events.now).count ≤ most_events = file_few c.args.file.now c.requires.accepted_file.0 _ _ _ c.of-case.ensures.format refl c.of-case.ensures.events in
    let inside : c.args.i < most_events = omega (arith, below, few) in
    inside

pub row_sanction-sanction-requires : goal.row_sanction-sanction-requires
row_sanction-sanction-requires c = record { accepted_file = (c.requires.accepted_file.0, row c); found_masks = c.requires.found_masks }

pub fuel_terms-fuel-requires : goal.fuel_terms-fuel-requires
fuel_terms-fuel-requires c =
    let row : c.choose-row.result < (decode c.args.file.now).events.count = rw c.choose-row.ensures (row_below c.args.file.now c.requires.accepted_file.0 _ _ _ c.requires.found_masks c.args.i c.requires.accepted_file.1 c.event_at-event.result.kind) in
    let few : (events_in c.of-case.result.format c.of-case.result.events.now).count ≤ most_events = file_few c.args.file.now c.requires.accepted_file.0 _ _ _ c.of-case.ensures.format refl c.of-case.ensures.events in
    let steady : Sound c.of-case.result.format c.of-case.result.events.now c.args.leaders.now = sound c.args.file.now c.requires.accepted_file.0 _ _ _ c.requires.found_masks _ _ _ c.of-case.ensures.format refl c.of-case.ensures.events
    (λ b. (c.shared_slice_known-1.given b).fits) in
    let kind : c.event_at-event.result.kind ≡ (decode c.args.file.now).events.kind c.args.i = kind_of _ c.args.file.now _ c.of-case.ensures.format c.of-case.ensures.events _ _ c.event_at-event.ensures in
    let q = count_is _ c.args.file.now _ c.of-case.ensures.format c.of-case.ensures.events in record {
      in_range = (omega (arith, row), few, steady);
      of_fuel = fuel_ready c.args.file.now c.requires.accepted_file.0 _ _ _ c.requires.found_masks c.args.i c.requires.accepted_file.1 _ _ _ _ _ c.of-case.ensures.format c.of-case.ensures.events
          kind c.choose-row.ensures c.row_sanction-sanction.ensures;
    }

pub event_cells-cells-requires : goal.event_cells-cells-requires
event_cells-cells-requires c =
    let below : c.args.i < (events_in c.of-case.result.format c.of-case.result.events.now).count = let q = count_is _ c.args.file.now _ c.of-case.ensures.format c.of-case.ensures.events in omega (arith, c.requires.accepted_file.1) in
    below

pub offset_bounds-masks-i : goal.offset_bounds-masks-i
offset_bounds-masks-i c =
    let below : c.args.i < (events_in c.of-case.result.format c.of-case.result.events.now).count = let q = count_is _ c.args.file.now _ c.of-case.ensures.format c.of-case.ensures.events in omega (arith, c.requires.accepted_file.1) in
    let few : (events_in c.of-case.result.format c.of-case.result.events.now).count ≤ most_events = file_few c.args.file.now c.requires.accepted_file.0 _ _ _ c.of-case.ensures.format refl c.of-case.ensures.events in
    let inside : c.args.i < most_events = omega (arith, below, few) in
    omega arith

pub bounds-masks-i : goal.bounds-masks-i
bounds-masks-i c =
    let below : c.args.i < (events_in c.of-case.result.format c.of-case.result.events.now).count = let q = count_is _ c.args.file.now _ c.of-case.ensures.format c.of-case.ensures.events in omega (arith, c.requires.accepted_file.1) in
    let few : (events_in c.of-case.result.format c.of-case.result.events.now).count ≤ most_events = file_few c.args.file.now c.requires.accepted_file.0 _ _ _ c.of-case.ensures.format refl c.of-case.ensures.events in
    let inside : c.args.i < most_events = omega (arith, below, few) in
    inside

pub hour_terms-hours-requires : goal.hour_terms-hours-requires
hour_terms-hours-requires c =
    let steady : Sound c.of-case.result.format c.of-case.result.events.now c.args.leaders.now = sound c.args.file.now c.requires.accepted_file.0 _ _ _ c.requires.found_masks _ _ _ c.of-case.ensures.format refl c.of-case.ensures.events
    (λ b. (c.shared_slice_known-1.given b).fits) in
    let below : c.args.i < (events_in c.of-case.result.format c.of-case.result.events.now).count = let q = count_is _ c.args.file.now _ c.of-case.ensures.format c.of-case.ensures.events in omega (arith, c.requires.accepted_file.1) in
    let k' = kind_here _ _ _ _ c.event_at-event.ensures in record {
      cells_there = c.event_cells-cells.ensures.1;
      small_amounts = (
        (λ k. rw c.event_cells-cells.ensures.0 (steady.withheld c.args.i below (sym k' ∙ k))),
        (λ k. rw c.event_cells-cells.ensures.0 (steady.fuel c.args.i below (sym k' ∙ k))),
      );
    }

pub added_of-requires : goal.added_of-requires
added_of-requires c = c.hour_terms-hours.ensures.1

pub added_of-requires-2 : goal.added_of-requires-2
added_of-requires-2 c = c.hour_terms-hours.ensures.1

pub hour_losses-requires : goal.hour_losses-requires
hour_losses-requires c = c.event_cells-cells.ensures.1

pub returns : goal.returns
returns c =
    let kind : c.event_at-event.result.kind ≡ (decode c.args.file.now).events.kind c.args.i = kind_of _ c.args.file.now _ c.of-case.ensures.format c.of-case.ensures.events _ _ c.event_at-event.ensures in
    working_made c.args.file.now c.requires.accepted_file.0 _ _ _ c.requires.found_masks c.args.i c.requires.accepted_file.1 _ _ _ _ _ _ _ _ _ _ _ c.of-case.ensures.format c.of-case.ensures.events
    c.event_cells-cells.ensures.0 kind c.choose-row.ensures c.row_sanction-sanction.ensures c.fuel_terms-fuel.ensures
    c.hour_terms-hours.ensures.0 c.added_of.ensures c.added_of-2.ensures c.hour_losses.ensures
