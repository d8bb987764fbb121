use Prim.Native.Nat.{◌<◌}
use mathlib.Core.Bool.{true}
use mathlib.Core.Path.{◌≡◌, sym, ◌∙◌}
use borrow.Author.Rules.{rules}
use native.Mathlib.Nat.{not-suc-le-zero}
use native.Mathlib.Omega.{arith}
use Rattle.binary.specs.Bounded.{all_to}
use Rattle.binary.proofs.BoundedLaws.{all_none, all_more, all_false}
use Rattle.binary.proofs.ListLaws.{holds_more}
use Rattle.casefile.specs.Decode.{units_in, events_in, amounts_in}
use Rattle.casefile.specs.StageRead.{event_at}
use Rattle.limits.specs.Refusal.{event_listed, events_listed, amount_fine, amounts_fine}
use Rattle.limits.proofs.LookupLaws.{listed_place, place_there, place_missing}
use Rattle.event_check.specs.StageFound.{event_place}
use Rattle.event_check.proofs.event_limits.unit_refusal.Goals as goal

-- the place found is that of the event's unit, which is listed
found : (c : goal.In-Some) →
    let s = c.args in
    (event_listed (units_in s.case.format s.case.units.now) (events_in s.case.format s.case.events.now) c.loop-i.i ≡ true)
    × (c.in-Some.at ≡ event_place (units_in s.case.format s.case.units.now) (events_in s.case.format s.case.events.now) c.loop-i.i)
unfolding event_place event_listed event_at
found c =
    let s = c.args in
    rw c.event_at-event.ensures at (place_there (units_in s.case.format s.case.units.now) _ c.in-Some.at (sym c.in-Some.is ∙ c.next_place-place.ensures))

within : (c : goal.In-Some) →
    let s = c.args in
    event_place (units_in s.case.format s.case.units.now) (events_in s.case.format s.case.events.now) c.loop-i.i < (units_in s.case.format s.case.units.now).count
unfolding event_place event_listed
within c = let s = c.args in listed_place (units_in s.case.format s.case.units.now) _ (found c).0

pub returns-then-n-eq0 : goal.returns-then-n-eq0
unfolding events_listed amounts_fine
returns-then-n-eq0 c =
    let s = c.args in
    let e : (events_in s.case.format s.case.events.now).count ≡ 0 = omega arith in
    let listed : all_to (events_in s.case.format s.case.events.now).count (event_listed (units_in s.case.format s.case.units.now) (events_in s.case.format s.case.events.now)) ≡ true = rw e (sym (all_none _)) in
    let within : all_to (events_in s.case.format s.case.events.now).count (amount_fine (units_in s.case.format s.case.units.now) (events_in s.case.format s.case.events.now) (amounts_in s.case.format s.case.events.now)) ≡ true = rw e (sym (all_none _)) in
    record { value = rw (listed, within); places_found = λ j l. absurd (omega arith) }

pub unit_place-place-requires : goal.unit_place-place-requires
unit_place-place-requires c = c.requires.0

pub loop-i-init : goal.loop-i-init
loop-i-init c = (search rules, sym (all_none _), all_none _, (λ j l. absurd (not-suc-le-zero l)), c.unit_place-place.ensures)

pub next_place-place-requires : goal.next_place-place-requires
next_place-place-requires c = (c.requires.0, c.loop-i.invariant.4)

pub returns-in_default : goal.returns-in_default
unfolding events_listed event_listed event_at
returns-in_default c =
    let s = c.args in
    let missing = rw c.event_at-event.ensures at (place_missing (units_in s.case.format s.case.units.now) _ (sym c.in_default.is ∙ c.next_place-place.ensures)) in
    record {
      value = rw (all_false (events_in s.case.format s.case.events.now).count c.loop-i.i (event_listed (units_in s.case.format s.case.units.now) (events_in s.case.format s.case.events.now)) (omega arith) missing);
      places_found = tt;
    }

pub amount_fine-fine-requires : goal.amount_fine-fine-requires
amount_fine-fine-requires c =
    let f = found c in
    record { in_range = (omega arith, rw f.1 (within c)); place_found = f.1 }

pub loop-i-preserved : goal.loop-i-preserved
unfolding event_place event_listed event_at
loop-i-preserved c =
    let l = c.loop-i in
    let s = c.args in
    let f : (event_listed (units_in s.case.format s.case.units.now) (events_in s.case.format s.case.events.now) l.i ≡ true)
    × (c.in-Some.at ≡ event_place (units_in s.case.format s.case.units.now) (events_in s.case.format s.case.events.now) l.i) = rw c.event_at-event.ensures at (place_there (units_in s.case.format s.case.units.now) _ c.in-Some.at (sym c.in-Some.is ∙ c.next_place-place.ensures)) in (
      search rules,
      rw (all_more, l.invariant.1) f.0,
      rw (l.invariant.2, c.amount_fine-fine.ensures, all_more),
      holds_more l.i l.table (event_place (units_in s.case.format s.case.units.now) (events_in s.case.format s.case.events.now)) _
          (omega (arith, c.requires.1, l.invariant.0)) l.invariant.3 f.1,
      sym c.in-Some.is ∙ c.next_place-place.ensures,
    )

pub returns-then-not-fine : goal.returns-then-not-fine
unfolding events_listed amounts_fine
returns-then-not-fine c =
    let l = c.loop-i in
    let s = c.args in
    let e : l.i ≡ (events_in s.case.format s.case.events.now).count = omega arith in
    let f : all_to (events_in s.case.format s.case.events.now).count (event_listed (units_in s.case.format s.case.units.now) (events_in s.case.format s.case.events.now)) ≡ true = rw e at l.invariant.1 in
    let broken = rw e at (sym l.invariant.2 ∙ c.if-not-fine.true) in
    record { value = rw (f, broken); places_found = tt }

pub returns : goal.returns
unfolding events_listed amounts_fine
returns c =
    let l = c.loop-i in
    let s = c.args in
    let e : l.i ≡ (events_in s.case.format s.case.events.now).count = omega arith in
    let f : all_to (events_in s.case.format s.case.events.now).count (event_listed (units_in s.case.format s.case.units.now) (events_in s.case.format s.case.events.now)) ≡ true = rw e at l.invariant.1 in
    let fine = rw e at (sym l.invariant.2 ∙ c.if-not-fine.false) in
    record { value = rw (f, fine); places_found = rw e at l.invariant.3 }
