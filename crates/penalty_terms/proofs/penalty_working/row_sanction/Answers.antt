use Prim.Native.Nat.{ℕ, ◌≤◌, ◌<◌}
use mathlib.Core.Path.{◌≡◌, ◌∙◌, refl, ap, subst}
use native.Mathlib.Omega.{arith}
use lib.ListN.{length-set}
use Rattle.binary.specs.Lists.{Holds}
use Rattle.binary.proofs.ListLaws.{holds_more}
use Rattle.casefile.specs.Layout.{most_events, most_past}
use Rattle.casefile.specs.Decode.{format_in, section_of, past_in, events_in, decode}
use Rattle.casefile.proofs.RecordLaws.{count_is}
use Rattle.conduct.proofs.FileLaws.{has_section, header_long, past_few, file_few}
use Rattle.sanctions.specs.declared.sanction.Sanction.{Sanction}
use Rattle.sanctions.specs.Penalties.{penalty}
use Rattle.sanctions.specs.StageGiven.{Sound}
use Rattle.sanctions.specs.StageTables.{sanction_of}
use Rattle.penalty_terms.proofs.TermLaws.{sound, row_found}
use Rattle.penalty_terms.proofs.penalty_working.row_sanction.Goals as goal

-- the sanction of the turn's row
turned : (c : goal.After-sanction_at-sanction) → c.sanction_at-sanction.result ≡ sanction_of (decode c.args.file.now) c.loop-i.i
turned c =
    let formatted : c.of-case.result.format ≡ format_in c.args.file.now = c.of-case.ensures.format in
    let past_of : c.of-case.result.past.now ≡ section_of c.args.file.now 2 = c.of-case.ensures.past in
    let events_of : c.of-case.result.events.now ≡ section_of c.args.file.now 3 = c.of-case.ensures.events in
    let below : c.loop-i.i < (decode c.args.file.now).events.count = omega (arith, c.loop-i-test.true, c.requires.accepted_file.1) in
    row_found c.args.file.now c.requires.accepted_file.0 _ _ _ c.requires.found_masks _ _ _ formatted past_of events_of _ _ _ below c.loop-i.invariant.1
    c.sanction_at-sanction.ensures

pub of-case-requires : goal.of-case-requires
of-case-requires c =
    let a = c.requires.accepted_file.0 in
    record { units = has_section _ a 0 (omega arith); references = has_section _ a 1 (omega arith); past = has_section _ a 2 (omega arith); events = has_section _ a 3 (omega arith) }

pub loop-i-init : goal.loop-i-init
loop-i-init c = (refl, (λ j q. absurd (let z : ⊥ = omega arith in z)))

pub sanction_at-sanction-requires : goal.sanction_at-sanction-requires
sanction_at-sanction-requires c =
    let formatted : c.of-case.result.format ≡ format_in c.args.file.now = c.of-case.ensures.format in
    let events_of : c.of-case.result.events.now ≡ section_of c.args.file.now 3 = c.of-case.ensures.events in
    let few : (decode c.args.file.now).events.count ≤ most_events = let f = c.args.file.now in
    let q = count_is _ f _ formatted events_of in
    let n = file_few f c.requires.accepted_file.0 _ _ _ formatted refl events_of in
    omega arith in
    let past_of : c.of-case.result.past.now ≡ section_of c.args.file.now 2 = c.of-case.ensures.past in
    let ready : (i : ℕ) → i < (decode c.args.file.now).events.count →
    let format = c.of-case.result.format in
    let events = c.of-case.result.events.now in
    ((i < (events_in format events).count) × ((events_in format events).count ≤ most_events) × ((past_in c.of-case.result.past.now).count ≤ most_past))
    × Sound format events c.args.leaders.now = λ i b. let f = c.args.file.now in
    let a = c.requires.accepted_file.0 in
    let q = count_is _ f _ formatted events_of in (
      (omega arith, omega (arith, few), past_few f a _ past_of),
      sound f a _ _ _ c.requires.found_masks _ _ _ formatted past_of events_of (λ b. (c.shared_slice_known-1.given b).fits),
    ) in
    let below : c.loop-i.i < (decode c.args.file.now).events.count = omega (arith, c.loop-i-test.true, c.requires.accepted_file.1) in
    let r = ready _ below in
    record { in_range = r.0; sound = r.1 }

pub offset_bounds-penalties-i : goal.offset_bounds-penalties-i
offset_bounds-penalties-i c =
    let below : c.loop-i.i < (decode c.args.file.now).events.count = omega (arith, c.loop-i-test.true, c.requires.accepted_file.1) in
    let formatted : c.of-case.result.format ≡ format_in c.args.file.now = c.of-case.ensures.format in
    let events_of : c.of-case.result.events.now ≡ section_of c.args.file.now 3 = c.of-case.ensures.events in
    let few : (decode c.args.file.now).events.count ≤ most_events = let f = c.args.file.now in
    let q = count_is _ f _ formatted events_of in
    let n = file_few f c.requires.accepted_file.0 _ _ _ formatted refl events_of in
    omega arith in
    let inside : c.loop-i.i < 200 = omega (arith, below, few) in
    omega arith

pub bounds-penalties-i : goal.bounds-penalties-i
bounds-penalties-i c =
    let below : c.loop-i.i < (decode c.args.file.now).events.count = omega (arith, c.loop-i-test.true, c.requires.accepted_file.1) in
    let formatted : c.of-case.result.format ≡ format_in c.args.file.now = c.of-case.ensures.format in
    let events_of : c.of-case.result.events.now ≡ section_of c.args.file.now 3 = c.of-case.ensures.events in
    let few : (decode c.args.file.now).events.count ≤ most_events = let f = c.args.file.now in
    let q = count_is _ f _ formatted events_of in
    let n = file_few f c.requires.accepted_file.0 _ _ _ formatted refl events_of in
    omega arith in
    let inside : c.loop-i.i < 200 = omega (arith, below, few) in
    inside

pub loop-i-preserved : goal.loop-i-preserved
loop-i-preserved c =
    let below : c.loop-i.i < (decode c.args.file.now).events.count = omega (arith, c.loop-i-test.true, c.requires.accepted_file.1) in
    let formatted : c.of-case.result.format ≡ format_in c.args.file.now = c.of-case.ensures.format in
    let events_of : c.of-case.result.events.now ≡ section_of c.args.file.now 3 = c.of-case.ensures.events in
    let few : (decode c.args.file.now).events.count ≤ most_events = let f = c.args.file.now in
    let q = count_is _ f _ formatted events_of in
    let n = file_few f c.requires.accepted_file.0 _ _ _ formatted refl events_of in
    omega arith in
    let inside : c.loop-i.i < 200 = omega (arith, below, few) in (
      length-set c.loop-i.penalties c.loop-i.i c.sanction_at-sanction.result.penalty ∙ c.loop-i.invariant.0,
      holds_more c.loop-i.i c.loop-i.penalties (penalty (decode c.args.file.now)) _ (omega (arith, c.loop-i.invariant.0)) c.loop-i.invariant.1
          (ap (λ (s : Sanction). s.penalty) (turned c)),
    )

pub sanction_at-requires : goal.sanction_at-requires
sanction_at-requires c =
    let formatted : c.of-case.result.format ≡ format_in c.args.file.now = c.of-case.ensures.format in
    let events_of : c.of-case.result.events.now ≡ section_of c.args.file.now 3 = c.of-case.ensures.events in
    let few : (decode c.args.file.now).events.count ≤ most_events = let f = c.args.file.now in
    let q = count_is _ f _ formatted events_of in
    let n = file_few f c.requires.accepted_file.0 _ _ _ formatted refl events_of in
    omega arith in
    let past_of : c.of-case.result.past.now ≡ section_of c.args.file.now 2 = c.of-case.ensures.past in
    let ready : (i : ℕ) → i < (decode c.args.file.now).events.count →
    let format = c.of-case.result.format in
    let events = c.of-case.result.events.now in
    ((i < (events_in format events).count) × ((events_in format events).count ≤ most_events) × ((past_in c.of-case.result.past.now).count ≤ most_past))
    × Sound format events c.args.leaders.now = λ i b. let f = c.args.file.now in
    let a = c.requires.accepted_file.0 in
    let q = count_is _ f _ formatted events_of in (
      (omega arith, omega (arith, few), past_few f a _ past_of),
      sound f a _ _ _ c.requires.found_masks _ _ _ formatted past_of events_of (λ b. (c.shared_slice_known-1.given b).fits),
    ) in
    let r = ready _ c.requires.accepted_file.1 in
    record { in_range = r.0; sound = r.1 }

pub returns : goal.returns
returns c =
    let formatted : c.of-case.result.format ≡ format_in c.args.file.now = c.of-case.ensures.format in
    let past_of : c.of-case.result.past.now ≡ section_of c.args.file.now 2 = c.of-case.ensures.past in
    let events_of : c.of-case.result.events.now ≡ section_of c.args.file.now 3 = c.of-case.ensures.events in
    let e : c.loop-i.i ≡ c.args.row = omega (arith, c.loop-i-test.false) in
    row_found c.args.file.now c.requires.accepted_file.0 _ _ _ c.requires.found_masks _ _ _ formatted past_of events_of _ _ _ c.requires.accepted_file.1
    (subst (λ (n : ℕ). Holds n c.loop-i.penalties (penalty (decode c.args.file.now))) e c.loop-i.invariant.1) c.sanction_at.ensures
