use Rattle.counted_instances.proofs.instance_bits.counted_at.Goals as goal

pub find_flags-requires : goal.find_flags-requires
find_flags-requires c = let p = c.requires in record { accepted_file = p.accepted_file.0; places_found = p.places_found; levels_found = p.levels_found }

pub put_counted-requires : goal.put_counted-requires
put_counted-requires c =
    let f = c.find_flags.ensures in
    let p = c.requires in
    record { accepted_file = p.accepted_file; groups_found = f.grouped; masks_found = f.flagged }

pub returns : goal.returns
returns c = c.put_counted.ensures
