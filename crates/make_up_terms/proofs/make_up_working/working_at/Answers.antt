use native.Mathlib.Omega.{arith}
use Prim.Native.Nat.{◌<◌}
use Rattle.casefile.specs.Layout.{most_events}
use Rattle.limits.proofs.AcceptedLaws as case
use Rattle.make_up_terms.proofs.make_up_working.working_at.Goals as goal

pub find_flags-requires : goal.find_flags-requires
find_flags-requires c = let p = c.requires in record { accepted_file = p.accepted_file.0; places_found = p.places_found; levels_found = p.levels_found }

pub offset_bounds-places-i : goal.offset_bounds-places-i
offset_bounds-places-i c =
    let inside : c.args.i < most_events = let a = c.requires.accepted_file.0 in
    omega (arith, c.requires.accepted_file.1, case.events_count c.args.file.now a.correction a.rows_length a.accepted) in
    omega arith

pub bounds-places-i : goal.bounds-places-i
bounds-places-i c =
    let inside : c.args.i < most_events = let a = c.requires.accepted_file.0 in
    omega (arith, c.requires.accepted_file.1, case.events_count c.args.file.now a.correction a.rows_length a.accepted) in
    inside

pub offset_bounds-levels-i : goal.offset_bounds-levels-i
offset_bounds-levels-i c =
    let inside : c.args.i < most_events = let a = c.requires.accepted_file.0 in
    omega (arith, c.requires.accepted_file.1, case.events_count c.args.file.now a.correction a.rows_length a.accepted) in
    omega arith

pub bounds-levels-i : goal.bounds-levels-i
bounds-levels-i c =
    let inside : c.args.i < most_events = let a = c.requires.accepted_file.0 in
    omega (arith, c.requires.accepted_file.1, case.events_count c.args.file.now a.correction a.rows_length a.accepted) in
    inside

pub offset_bounds-corrects-i : goal.offset_bounds-corrects-i
offset_bounds-corrects-i c =
    let inside : c.args.i < most_events = let a = c.requires.accepted_file.0 in
    omega (arith, c.requires.accepted_file.1, case.events_count c.args.file.now a.correction a.rows_length a.accepted) in
    omega arith

pub bounds-corrects-i : goal.bounds-corrects-i
bounds-corrects-i c =
    let inside : c.args.i < most_events = let a = c.requires.accepted_file.0 in
    omega (arith, c.requires.accepted_file.1, case.events_count c.args.file.now a.correction a.rows_length a.accepted) in
    inside

pub offset_bounds-masks-i : goal.offset_bounds-masks-i
offset_bounds-masks-i c =
    let inside : c.args.i < most_events = let a = c.requires.accepted_file.0 in
    omega (arith, c.requires.accepted_file.1, case.events_count c.args.file.now a.correction a.rows_length a.accepted) in
    omega arith

pub bounds-masks-i : goal.bounds-masks-i
bounds-masks-i c =
    let inside : c.args.i < most_events = let a = c.requires.accepted_file.0 in
    omega (arith, c.requires.accepted_file.1, case.events_count c.args.file.now a.correction a.rows_length a.accepted) in
    inside

pub working_by-requires : goal.working_by-requires
working_by-requires c =
    let f = c.find_flags.ensures in
    let p = c.requires in
    record { accepted_file = p.accepted_file; place_found = (p.places_found _ p.accepted_file.1, p.levels_found _ p.accepted_file.1, f.flagged _ p.accepted_file.1) }

pub returns : goal.returns
returns c = c.working_by.ensures
