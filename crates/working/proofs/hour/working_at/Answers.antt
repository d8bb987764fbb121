use Prim.Native.Nat.{◌≤◌, ◌<◌}
use mathlib.Core.Path.{refl, ◌∙◌}
use native.Mathlib.Omega.{arith}
use Rattle.casefile.specs.Layout.{most_events}
use Rattle.casefile.specs.Decode.{events_in, decode}
use Rattle.casefile.proofs.RecordLaws.{count_is}
use Rattle.conduct.proofs.FileLaws.{has_section, header_long, past_few, file_few, file_bids}
use Rattle.working.proofs.WorkingLaws.{figures_full, counts_are, flag_is, small_s, working_full}
use Rattle.working.proofs.hour.working_at.Goals as goal

below : (s : goal.After-of-case) → s.args.i < (events_in s.of-case.result.format s.of-case.result.events.now).count
below s = let q = count_is _ s.args.file.now _ s.of-case.ensures.format s.of-case.ensures.events in omega (arith, s.requires.accepted_file.1)

few : (s : goal.After-of-case) → (events_in s.of-case.result.format s.of-case.result.events.now).count ≤ most_events
few s = file_few s.args.file.now s.requires.accepted_file.0 _ _ _ s.of-case.ensures.format refl s.of-case.ensures.events

inside : (s : goal.After-of-case) → s.args.i < most_events
inside s = let b = below s in let n = few s in omega arith

pub find_flags-requires : goal.find_flags-requires
find_flags-requires c = let p = c.requires in record { accepted_file = p.accepted_file.0; places_found = p.places_found; levels_found = p.levels_found }

pub of-case-requires : goal.of-case-requires
of-case-requires c =
    let a = c.requires.accepted_file.0 in
    record { units = has_section _ a 0 (omega arith); references = has_section _ a 1 (omega arith); past = has_section _ a 2 (omega arith); events = has_section _ a 3 (omega arith) }

pub offset_bounds-masks-i : goal.offset_bounds-masks-i
offset_bounds-masks-i c = let b = inside c in omega arith

pub bounds-masks-i : goal.bounds-masks-i
bounds-masks-i c = let b = inside c in omega arith

pub instances_at-instances-requires : goal.instances_at-instances-requires
instances_at-instances-requires c =
    let below : c.args.i < (events_in c.of-case.result.format c.of-case.result.events.now).count = let q = count_is _ c.args.file.now _ c.of-case.ensures.format c.of-case.ensures.events in omega (arith, c.requires.accepted_file.1) in
    let few : (events_in c.of-case.result.format c.of-case.result.events.now).count ≤ most_events = file_few c.args.file.now c.requires.accepted_file.0 _ _ _ c.of-case.ensures.format refl c.of-case.ensures.events in
    let inside : c.args.i < most_events = omega arith in
    (below, inside, past_few c.args.file.now c.requires.accepted_file.0 _ c.of-case.ensures.past)

pub party_figures-sums-requires : goal.party_figures-sums-requires
party_figures-sums-requires c = record { accepted_file = c.requires.accepted_file; places_found = c.requires.places_found; leaders_found = c.find_flags.ensures.led }

pub time_totals-totals-requires : goal.time_totals-totals-requires
time_totals-totals-requires c =
    let below : c.args.i < (events_in c.of-case.result.format c.of-case.result.events.now).count = let q = count_is _ c.args.file.now _ c.of-case.ensures.format c.of-case.ensures.events in omega (arith, c.requires.accepted_file.1) in
    let few : (events_in c.of-case.result.format c.of-case.result.events.now).count ≤ most_events = file_few c.args.file.now c.requires.accepted_file.0 _ _ _ c.of-case.ensures.format refl c.of-case.ensures.events in
    record { in_range = (below, few); bids_in_order = file_bids c.args.file.now c.requires.accepted_file.0 _ _ _ c.of-case.ensures.format refl c.of-case.ensures.events }

pub offset_bounds-places-i : goal.offset_bounds-places-i
offset_bounds-places-i c =
    let below : c.args.i < (events_in c.of-case.result.format c.of-case.result.events.now).count = let q = count_is _ c.args.file.now _ c.of-case.ensures.format c.of-case.ensures.events in omega (arith, c.requires.accepted_file.1) in
    let few : (events_in c.of-case.result.format c.of-case.result.events.now).count ≤ most_events = file_few c.args.file.now c.requires.accepted_file.0 _ _ _ c.of-case.ensures.format refl c.of-case.ensures.events in
    let inside : c.args.i < most_events = omega arith in
    omega arith

pub bounds-places-i : goal.bounds-places-i
bounds-places-i c =
    let below : c.args.i < (events_in c.of-case.result.format c.of-case.result.events.now).count = let q = count_is _ c.args.file.now _ c.of-case.ensures.format c.of-case.ensures.events in omega (arith, c.requires.accepted_file.1) in
    let few : (events_in c.of-case.result.format c.of-case.result.events.now).count ≤ most_events = file_few c.args.file.now c.requires.accepted_file.0 _ _ _ c.of-case.ensures.format refl c.of-case.ensures.events in
    let inside : c.args.i < most_events = omega arith in
    omega arith

pub offset_bounds-levels-i : goal.offset_bounds-levels-i
offset_bounds-levels-i c =
    let below : c.args.i < (events_in c.of-case.result.format c.of-case.result.events.now).count = let q = count_is _ c.args.file.now _ c.of-case.ensures.format c.of-case.ensures.events in omega (arith, c.requires.accepted_file.1) in
    let few : (events_in c.of-case.result.format c.of-case.result.events.now).count ≤ most_events = file_few c.args.file.now c.requires.accepted_file.0 _ _ _ c.of-case.ensures.format refl c.of-case.ensures.events in
    let inside : c.args.i < most_events = omega arith in
    omega arith

pub bounds-levels-i : goal.bounds-levels-i
bounds-levels-i c =
    let below : c.args.i < (events_in c.of-case.result.format c.of-case.result.events.now).count = let q = count_is _ c.args.file.now _ c.of-case.ensures.format c.of-case.ensures.events in omega (arith, c.requires.accepted_file.1) in
    let few : (events_in c.of-case.result.format c.of-case.result.events.now).count ≤ most_events = file_few c.args.file.now c.requires.accepted_file.0 _ _ _ c.of-case.ensures.format refl c.of-case.ensures.events in
    let inside : c.args.i < most_events = omega arith in
    omega arith

pub offset_bounds-totals-h : goal.offset_bounds-totals-h
offset_bounds-totals-h c = omega (arith, c.requires.accepted_file.2)

pub bounds-totals-h : goal.bounds-totals-h
bounds-totals-h c = omega (arith, c.requires.accepted_file.2)

pub figures_at-figures-requires : goal.figures_at-figures-requires
figures_at-figures-requires c = let p = c.requires in record { accepted_file = p.accepted_file; place_found = p.places_found _ p.accepted_file.1 }

pub working_from-requires : goal.working_from-requires
working_from-requires c = small_s _ _ _ _ _ _ _ c.figures_at-figures.ensures c.party_figures-sums.ensures.sum_in_range

pub returns : goal.returns
returns c =
    let a = c.args in
    let p = c.requires in
    let ef = c.of-case.ensures.format in
    let f = c.find_flags.ensures in
    working_full (decode a.file.now) a.i a.h _ _ _ _ c.working_from.ensures
    (figures_full _ a.file.now _ ef c.of-case.ensures.events a.levels.now p.levels_found a.i a.h _ _ _ p.accepted_file.1 c.figures_at-figures.ensures
    c.party_figures-sums.ensures.value (c.time_totals-totals.ensures.each _ p.accepted_file.2))
    (c.bit_of-flagged.ensures ∙ flag_is a.file.now a.i a.h _ (f.flagged _ p.accepted_file.1) p.accepted_file.2)
    (counts_are a.file.now p.accepted_file.0 _ _ _ _ c.find_flags.new.leaders _ a.i _ ef c.of-case.ensures.past c.of-case.ensures.events
    (record { group_held = f.grouped; leader_held = f.led; mask_held = f.flagged }) p.accepted_file.1 c.instances_at-instances.ensures)
