use native.Mathlib.Omega.{arith}
use Rattle.casefile.specs.StageRead.{event_at}
use Rattle.conduct.proofs.FlagLaws.{leads_none, leads_bid, leads_party}
use Rattle.conduct.proofs.flags.leader_flags.Goals as goal

pub returns-then-leaders-i : goal.returns-then-leaders-i
unfolding event_at
returns-then-leaders-i c = leads_none _ _ _ _ _ _ c.requires.led _ c.requires.in_range _ c.if-leaders-i.true

pub returns-then-kind-eq4 : goal.returns-then-kind-eq4
unfolding event_at
returns-then-kind-eq4 c =
    let few = c.requires.led.few in
    let kind = rw c.event_at-event.ensures at c.if-kind-eq4.true in
    leads_bid _ _ _ _ _ _ c.requires.led _ c.requires.in_range _ kind c.if-leaders-i.false (omega arith)

pub party_flags-requires : goal.party_flags-requires
unfolding event_at
party_flags-requires c =
    let kind = rw c.event_at-event.ensures at c.if-kind-eq4.false in
    record { led = c.requires.led; in_range = (c.requires.in_range, c.if-leaders-i.false, kind); run_end = c.requires.run_end }

pub returns : goal.returns
unfolding event_at
returns c =
    let kind = rw c.event_at-event.ensures at c.if-kind-eq4.false in
    leads_party _ _ _ _ _ _ c.requires.led _ c.requires.in_range _ _ kind c.party_flags.ensures
