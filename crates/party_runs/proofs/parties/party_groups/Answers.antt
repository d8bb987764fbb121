use Prim.Native.Nat.{◌<◌}
use mathlib.Core.List.{[]}
use native.Mathlib.Omega.{arith}
use lib.ListN.{length-set}
use Rattle.binary.proofs.ListLaws.{holds_more}
use Rattle.casefile.specs.Decode.{events_in, case_in}
use Rattle.casefile.specs.Lookup.{group_of}
use Rattle.party_runs.proofs.StageLaws.{place_in, group_in}
use Rattle.party_runs.proofs.parties.party_groups.Goals as goal

pub group_at-requires : goal.group_at-requires
group_at-requires c =
    let a = c.args in
    let here : c.loop-i.i < (events_in a.case.format a.case.events.now).count = omega arith in
    place_in a.case.format a.case.units.now [] [] a.case.events.now a.places.now _ here c.requires.events_listed c.requires.places_found

pub loop-i-preserved : goal.loop-i-preserved
loop-i-preserved c =
    let l = c.loop-i in
    let a = c.args in
    let here : l.i < (events_in a.case.format a.case.events.now).count = omega arith in
    let g = group_in a.case.format a.case.units.now [] [] a.case.events.now a.places.now _ here _ c.requires.places_found c.group_at.ensures in
    (simp length-set l.invariant.0, holds_more l.i l.table (group_of (case_in a.case.format a.case.units.now [] [] a.case.events.now)) _ (omega arith) l.invariant.1 g)
