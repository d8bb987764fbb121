use native.Mathlib.Omega.{arith}
use Rattle.conduct.proofs.FileLaws.{has_section, header_long, file_few, file_listed, file_bids, file_runs, file_places, file_led, file_groups, file_leaders, file_flags}
use Rattle.conduct.proofs.flags.find_flags.Goals as goal

pub of-case-requires : goal.of-case-requires
of-case-requires c =
    let a = c.requires.accepted_file in
    record { units = has_section _ a 0 (omega arith); references = has_section _ a 1 (omega arith); past = has_section _ a 2 (omega arith); events = has_section _ a 3 (omega arith) }

pub find_parties-requires : goal.find_parties-requires
find_parties-requires c =
    let a = c.requires.accepted_file in
    let ef = c.of-case.ensures.format in
    let eu = c.of-case.ensures.units in
    let ee = c.of-case.ensures.events in
    record { events_listed = file_listed _ a _ _ _ ef eu ee; few_events = file_few _ a _ _ _ ef eu ee; runs_together = file_runs _ a _ _ _ ef eu ee (λ b. (c.shared_slice_known-1.given b).fits); places_found = file_places _ a _ _ _ ef eu ee c.args.places.now c.requires.places_found }

pub flag_masks-requires : goal.flag_masks-requires
flag_masks-requires c =
    let a = c.requires.accepted_file in
    let ef = c.of-case.ensures.format in
    let eu = c.of-case.ensures.units in
    let ee = c.of-case.ensures.events in
    record { led = file_led _ a _ _ _ ef eu ee _ _ c.requires.places_found c.find_parties.ensures.led; runs_together = file_runs _ a _ _ _ ef eu ee (λ b. (c.shared_slice_known-1.given b).fits); bids_in_order = file_bids _ a _ _ _ ef eu ee }

pub returns : goal.returns
returns c =
    let a = c.requires.accepted_file in
    let ef = c.of-case.ensures.format in
    let eu = c.of-case.ensures.units in
    let ee = c.of-case.ensures.events in
    let p = c.find_parties in
    record { grouped = file_groups _ a _ _ _ ef eu ee p.new.groups p.ensures.grouped; led = file_leaders _ a _ _ _ ef eu ee p.new.leaders p.ensures.led; flagged = file_flags _ a _ _ _ ef eu ee c.args.levels.now c.flag_masks.new.masks c.requires.levels_found c.flag_masks.ensures }
