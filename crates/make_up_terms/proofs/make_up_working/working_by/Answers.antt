use Prim.Native.Nat.{◌<◌}
use native.Mathlib.Omega.{arith}
use Rattle.casefile.specs.Decode.{events_in, units_in}
use Rattle.casefile.proofs.RecordLaws.{count_is}
use Rattle.conduct.proofs.FileLaws.{has_section, header_long, file_place}
use Rattle.make_up_terms.proofs.MakeUpLaws.{file_fine, working_made}
use Rattle.make_up_terms.proofs.make_up_working.working_by.Goals as goal

below : (s : goal.After-of-case) → s.args.i < (events_in s.of-case.result.format s.of-case.result.events.now).count
below s = let q = count_is _ s.args.file.now _ s.of-case.ensures.format s.of-case.ensures.events in omega (arith, s.requires.accepted_file.1)

pub of-case-requires : goal.of-case-requires
of-case-requires c =
    let a = c.requires.accepted_file.0 in
    record { units = has_section _ a 0 (omega arith); references = has_section _ a 1 (omega arith); past = has_section _ a 2 (omega arith); events = has_section _ a 3 (omega arith) }

pub mitigated_mask-mitigated-requires : goal.mitigated_mask-mitigated-requires
mitigated_mask-mitigated-requires c = below c

pub restored_mask-restored-requires : goal.restored_mask-restored-requires
restored_mask-restored-requires c =
    let below : c.args.i < (events_in c.of-case.result.format c.of-case.result.events.now).count = let q = count_is _ c.args.file.now _ c.of-case.ensures.format c.of-case.ensures.events in omega (arith, c.requires.accepted_file.1) in
    let place : c.args.place < (units_in c.of-case.result.format c.of-case.result.units.now).count = let p = c.requires in
    file_place c.args.file.now p.accepted_file.0 _ _ _ c.of-case.ensures.format c.of-case.ensures.units c.of-case.ensures.events _ _ p.place_found.0 p.accepted_file.1 in
    (below, place)

pub make_up_terms-terms-requires : goal.make_up_terms-terms-requires
make_up_terms-terms-requires c =
    let below : c.args.i < (events_in c.of-case.result.format c.of-case.result.events.now).count = let q = count_is _ c.args.file.now _ c.of-case.ensures.format c.of-case.ensures.events in omega (arith, c.requires.accepted_file.1) in
    (below, file_fine c.args.file.now c.requires.accepted_file.0 _ _ c.of-case.ensures.format c.of-case.ensures.events)

pub event_make_up-make_up-requires : goal.event_make_up-make_up-requires
event_make_up-make_up-requires c =
    let below : c.args.i < (events_in c.of-case.result.format c.of-case.result.events.now).count = let q = count_is _ c.args.file.now _ c.of-case.ensures.format c.of-case.ensures.events in omega (arith, c.requires.accepted_file.1) in
    (below, file_fine c.args.file.now c.requires.accepted_file.0 _ _ c.of-case.ensures.format c.of-case.ensures.events)

pub returns : goal.returns
returns c =
    let p = c.requires in
    working_made c.args.file.now c.args.correct c.args.i _ _ _ _ _ _ _ _ _ _ c.of-case.ensures.format c.of-case.ensures.units c.of-case.ensures.events
    p.place_found.0 p.place_found.1 p.place_found.2 c.mitigated_mask-mitigated.ensures c.restored_mask-restored.ensures c.make_up_terms-terms.ensures c.event_make_up-make_up.ensures.0
