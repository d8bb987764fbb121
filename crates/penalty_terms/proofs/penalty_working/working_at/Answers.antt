use Rattle.penalty_terms.proofs.penalty_working.working_at.Goals as goal

pub find_flags-requires : goal.find_flags-requires
find_flags-requires c = let p = c.requires in record { accepted_file = p.accepted_file.0; places_found = p.places_found; levels_found = p.levels_found }

pub working_of-requires : goal.working_of-requires
working_of-requires c =
    let f = c.find_flags.ensures in
    let p = c.requires in
    record { accepted_file = p.accepted_file; found_masks = record { group_held = f.grouped; leader_held = f.led; mask_held = f.flagged } }

pub returns : goal.returns
returns c = c.working_of.ensures
