use Prim.Native.Nat.{◌<◌}
use mathlib.Core.List.{[]}
use mathlib.Core.Path.{◌≡◌}
use borrow.Author.Rules.{rules}
use native.Mathlib.Omega.{arith}
use lib.ListN.{length, length-set}
use Rattle.casefile.specs.Layout.{most_events}
use Rattle.casefile.specs.Decode.{events_in, case_in}
use Rattle.party_runs.proofs.StageLaws.{place_in}
use Rattle.conduct.specs.StageFlags.{PartyWithin, flag_mask_in}
use Rattle.conduct.proofs.FlagLaws.{PartyFound, party_within, party_row, own_flags, member_flags, party_first, party_more, party_pass, party_all}
use Rattle.conduct.proofs.flags.party_flags.Goals as goal
use Rattle.conduct.proofs.flags.party_flags.Goals.{then-leaders-j, else-leaders-j}

pub party_sums-sums-requires : goal.party_sums-sums-requires
party_sums-sums-requires c =
    let within : let a = c.args in PartyWithin a.leaders.now (events_in a.case.format a.case.events.now).count a.i a.end = party_within _ _ _ _ _ c.requires.led _ _ c.requires.run_end in
    let r = c.requires.run_end in record { in_range = (omega arith, omega arith, c.requires.led.few); party_within = within }

pub listed_capability-g-requires : goal.listed_capability-g-requires
listed_capability-g-requires c =
    let f = c.requires.led in
    let l = c.requires.in_range.0 in
    record { in_range = (l, place_in _ _ [] [] _ c.args.places.now _ l f.listed f.placed, f.short); place_found = f.placed _ l }

pub event_mask-first-requires : goal.event_mask-first-requires
event_mask-first-requires c =
    let f = c.requires.led in
    let l = c.requires.in_range.0 in
    (l, place_in _ _ [] [] _ c.args.places.now _ l f.listed f.placed)

pub loop-j-init : goal.loop-j-init
unfolding case_in
loop-j-init c =
    let within : let a = c.args in PartyWithin a.leaders.now (events_in a.case.format a.case.events.now).count a.i a.end = party_within _ _ _ _ _ c.requires.led _ _ c.requires.run_end in
    let found : let a = c.args in
    PartyFound a.case.format a.case.units.now a.case.events.now a.i c.listed_capability-g.result c.party_sums-sums.result = let f = c.requires.led in
    let p = c.requires.in_range in
    record {
      no_bid = p.2;
      capability = c.listed_capability-g.ensures;
      summed = party_row _ _ _ _ _ f _ _ p.1 p.2 p.0 c.party_sums-sums.ensures.has_row;
    } in
    let first_is : let a = c.args in
    c.event_mask-first.result ≡ flag_mask_in (case_in a.case.format a.case.units.now [] [] a.case.events.now) [] a.i = let f = c.requires.led in
    let p = c.requires.in_range in
    own_flags _ _ _ _ _ _ f _ _ _ found p.0 p.1 _ _ (f.placed _ p.0) c.event_mask-first.ensures in
    let few = c.requires.led.few in
    let r = c.requires.run_end in
    let masks = c.args.masks.now in
    let long : length masks ≡ most_events = search rules in
    (simp length-set long, party_first _ _ _ _ masks masks _ _ _ _ within c.requires.in_range.0 (omega arith) first_is)

pub member_mask-requires : goal.member_mask-requires
member_mask-requires c =
    let f = c.requires.led in
    let r = c.requires.run_end in
    let l : c.loop-j.j < (events_in c.args.case.format c.args.case.events.now).count = omega arith in
    (l, place_in _ _ [] [] _ c.args.places.now _ l f.listed f.placed)

pub loop-j-preserved : goal.loop-j-preserved
unfolding case_in
loop-j-preserved c =
    let found : let a = c.args in
    PartyFound a.case.format a.case.units.now a.case.events.now a.i c.listed_capability-g.result c.party_sums-sums.result = let f = c.requires.led in
    let p = c.requires.in_range in
    record {
      no_bid = p.2;
      capability = c.listed_capability-g.ensures;
      summed = party_row _ _ _ _ _ f _ _ p.1 p.2 p.0 c.party_sums-sums.ensures.has_row;
    } in
    let first_is : let a = c.args in
    c.event_mask-first.result ≡ flag_mask_in (case_in a.case.format a.case.units.now [] [] a.case.events.now) [] a.i = let f = c.requires.led in
    let p = c.requires.in_range in
    own_flags _ _ _ _ _ _ f _ _ _ found p.0 p.1 _ _ (f.placed _ p.0) c.event_mask-first.ensures in
    let f = c.requires.led in
    let l = c.loop-j in
    let r = c.requires.run_end in
    let few = f.few in
    let here : l.j < (events_in c.args.case.format c.args.case.events.now).count = omega arith in
    let room : l.j < length l.table = omega arith in (
      elim c.if-leaders-j.branch [
        | then-leaders-j w ↦ rw w.table-is (simp length-set l.invariant.0)
        | else-leaders-j w ↦ rw w.table-is l.invariant.0
      ],
      elim c.if-leaders-j.branch [
        | then-leaders-j w ↦
            rw w.table-is
            (party_more _ _ _ _ _ _ _ _ _ room w.if-leaders-j.true
            (member_flags _ _ _ _ _ _ f _ _ _ found here w.if-leaders-j.true _ _ _ (f.placed _ here) first_is w.member_mask.ensures) l.invariant.1)
        | else-leaders-j w ↦ rw w.table-is (party_pass _ _ _ _ _ _ _ _ w.if-leaders-j.false l.invariant.1)
      ],
    )

pub returns : goal.returns
returns c =
    let within : let a = c.args in PartyWithin a.leaders.now (events_in a.case.format a.case.events.now).count a.i a.end = party_within _ _ _ _ _ c.requires.led _ _ c.requires.run_end in
    let l = c.loop-j in
    let e : l.j ≡ c.args.end = omega arith in
    party_all _ _ _ _ _ _ _ _ _ _ within c.requires.in_range.1 (rw e at l.invariant.1)
