use Prim.Native.Nat.{◌<◌}
use mathlib.Core.List.{[]}
use mathlib.Core.Path.{◌∙◌}
use native.Mathlib.Omega.{arith}
use Rattle.casefile.specs.Decode.{events_in}
use Rattle.casefile.proofs.RecordLaws.{count_is, kind_of}
use Rattle.party_runs.proofs.StageLaws.{place_in}
use Rattle.conduct.specs.StageFlags.{Led}
use Rattle.conduct.proofs.FlagLaws.{party_within}
use Rattle.conduct.proofs.FileLaws.{has_section, header_long, file_runs}
use Rattle.working.proofs.WorkingLaws.{sums_are, leader_below, led_sum_is, listed_is, found_led}
use Rattle.working.proofs.hour.party_figures.Goals as goal

below : (s : goal.After-of-case) → s.args.i < (events_in s.of-case.result.format s.of-case.result.events.now).count
below s = let q = count_is _ s.args.file.now _ s.of-case.ensures.format s.of-case.ensures.events in omega (arith, s.requires.accepted_file.1)

pub of-case-requires : goal.of-case-requires
of-case-requires c =
    let a = c.requires.accepted_file.0 in
    record { units = has_section _ a 0 (omega arith); references = has_section _ a 1 (omega arith); past = has_section _ a 2 (omega arith); events = has_section _ a 3 (omega arith) }

pub event_at-event-requires : goal.event_at-event-requires
event_at-event-requires c = below c

pub offset_bounds-leaders-i : goal.offset_bounds-leaders-i
offset_bounds-leaders-i c =
    let below : c.args.i < (events_in c.of-case.result.format c.of-case.result.events.now).count = let q = count_is _ c.args.file.now _ c.of-case.ensures.format c.of-case.ensures.events in omega (arith, c.requires.accepted_file.1) in
    let found : let a = c.args in
    Led c.of-case.result.format c.of-case.result.units.now c.of-case.result.events.now a.places.now a.leaders.now = let p = c.requires in
    found_led _ c.args.file.now _ _ c.of-case.ensures.format c.of-case.ensures.units c.of-case.ensures.events p.accepted_file.0 _ _ p.places_found p.leaders_found in
    omega (arith, found.few)

pub bounds-leaders-i : goal.bounds-leaders-i
bounds-leaders-i c =
    let below : c.args.i < (events_in c.of-case.result.format c.of-case.result.events.now).count = let q = count_is _ c.args.file.now _ c.of-case.ensures.format c.of-case.ensures.events in omega (arith, c.requires.accepted_file.1) in
    let found : let a = c.args in
    Led c.of-case.result.format c.of-case.result.units.now c.of-case.result.events.now a.places.now a.leaders.now = let p = c.requires in
    found_led _ c.args.file.now _ _ c.of-case.ensures.format c.of-case.ensures.units c.of-case.ensures.events p.accepted_file.0 _ _ p.places_found p.leaders_found in
    omega (arith, found.few)

pub run_end-end-requires : goal.run_end-end-requires
run_end-end-requires c =
    let a = c.args in
    let ef = c.of-case.ensures.format in record { in_range = leader_below _ a.file.now _ ef c.of-case.ensures.events a.leaders.now c.requires.leaders_found _ c.requires.accepted_file.1; runs_together = file_runs a.file.now c.requires.accepted_file.0 _ _ _ ef c.of-case.ensures.units c.of-case.ensures.events (λ b. (c.shared_slice_known-1.given b).fits) }

pub party_sums-sums-requires : goal.party_sums-sums-requires
party_sums-sums-requires c =
    let found : let a = c.args in
    Led c.of-case.result.format c.of-case.result.units.now c.of-case.result.events.now a.places.now a.leaders.now = let p = c.requires in
    found_led _ c.args.file.now _ _ c.of-case.ensures.format c.of-case.ensures.units c.of-case.ensures.events p.accepted_file.0 _ _ p.places_found p.leaders_found in
    record { in_range = (omega (arith, c.run_end-end.ensures.after), c.run_end-end.ensures.within, found.few); party_within = party_within _ _ _ _ _ found _ _ c.run_end-end.ensures }

pub offset_bounds-sums-h : goal.offset_bounds-sums-h
offset_bounds-sums-h c = omega (arith, c.requires.accepted_file.2)

pub bounds-sums-h : goal.bounds-sums-h
bounds-sums-h c = omega (arith, c.requires.accepted_file.2)

pub offset_bounds-places-i : goal.offset_bounds-places-i
offset_bounds-places-i c =
    let below : c.args.i < (events_in c.of-case.result.format c.of-case.result.events.now).count = let q = count_is _ c.args.file.now _ c.of-case.ensures.format c.of-case.ensures.events in omega (arith, c.requires.accepted_file.1) in
    let found : let a = c.args in
    Led c.of-case.result.format c.of-case.result.units.now c.of-case.result.events.now a.places.now a.leaders.now = let p = c.requires in
    found_led _ c.args.file.now _ _ c.of-case.ensures.format c.of-case.ensures.units c.of-case.ensures.events p.accepted_file.0 _ _ p.places_found p.leaders_found in
    omega (arith, found.few)

pub bounds-places-i : goal.bounds-places-i
bounds-places-i c =
    let below : c.args.i < (events_in c.of-case.result.format c.of-case.result.events.now).count = let q = count_is _ c.args.file.now _ c.of-case.ensures.format c.of-case.ensures.events in omega (arith, c.requires.accepted_file.1) in
    let found : let a = c.args in
    Led c.of-case.result.format c.of-case.result.units.now c.of-case.result.events.now a.places.now a.leaders.now = let p = c.requires in
    found_led _ c.args.file.now _ _ c.of-case.ensures.format c.of-case.ensures.units c.of-case.ensures.events p.accepted_file.0 _ _ p.places_found p.leaders_found in
    omega (arith, found.few)

pub listed_capability-requires : goal.listed_capability-requires
listed_capability-requires c =
    let found : let a = c.args in
    Led c.of-case.result.format c.of-case.result.units.now c.of-case.result.events.now a.places.now a.leaders.now = let p = c.requires in
    found_led _ c.args.file.now _ _ c.of-case.ensures.format c.of-case.ensures.units c.of-case.ensures.events p.accepted_file.0 _ _ p.places_found p.leaders_found in
    let below : c.args.i < (events_in c.of-case.result.format c.of-case.result.events.now).count = let q = count_is _ c.args.file.now _ c.of-case.ensures.format c.of-case.ensures.events in omega (arith, c.requires.accepted_file.1) in
    record { in_range = (below, place_in _ _ [] [] _ c.args.places.now _ below found.listed found.placed, found.short); place_found = found.placed _ below }

pub returns : goal.returns
returns c =
    let a = c.args in
    let p = c.requires in
    let ef = c.of-case.ensures.format in
    let sums = c.party_sums-sums.ensures in
    let all = sums_are _ a.i a.h _ (led_sum_is _ a.file.now _ ef c.of-case.ensures.events a.leaders.now p.leaders_found _ a.i a.h sums.has_row p.accepted_file.1 p.accepted_file.2) _ _ _ _
    (kind_of _ a.file.now _ ef c.of-case.ensures.events _ _ c.event_at-event.ensures) (sums.small_row _ p.accepted_file.2)
    c.choose.ensures
    (c.listed_capability.ensures ∙ listed_is _ a.file.now _ _ ef c.of-case.ensures.units c.of-case.ensures.events a.i) c.choose-2.ensures in
    record { value = all.0; sum_in_range = all.1 }
