use mathlib.Core.Path.{◌≡◌, ◌∙◌, sym}
use native.Mathlib.Omega.{arith}
use borrow.Author.Tests.{lt-ltb, le-ltb}
use lib.ListN.{length}
use Rattle.casefile.specs.Decode.{decode}
use Rattle.casefile.proofs.RecordLaws.{count_is}
use Rattle.limits.proofs.RefusalLaws.{refusal_not_0}
use Rattle.limits.specs.Refusal.{refusal, most_rows}
use Rattle.limits.specs.StageChecked.{AcceptedFile}
use Rattle.conduct.proofs.FileLaws.{has_section, header_long}
use Rattle.counted_instances.specs.CountedInstances.{counted_length}
use Rattle.counted_instances.proofs.CountedLaws.{refused_is, outside_is, short_is, counted_is}
use Rattle.counted_instances.proofs.instance_bits.instances.Goals as goal

pub returns-in-Err : goal.returns-in-Err
returns-in-Err c =
    let a = c.args in
    let r = refused_is a.file.now a.correction.now a.event a.out.now _ (c.from.ensures ∙ c.in-Err.ensures.value) (λ z. refusal_not_0 _ (sym c.from.ensures ∙ z)) in
    record { value = r.0; out_after = r.1 }

pub returns-then-event_count-event : goal.returns-then-event_count-event
returns-then-event_count-event c =
    let counted : c.event_count.result ≡ (decode c.args.file.now).events.count = c.event_count.ensures ∙ count_is _ c.args.file.now _ c.of-case.ensures.format c.of-case.ensures.events in
    let fine : let a = c.args in refusal a.file.now a.correction.now (most_rows a.file.now) ≡ 0 = sym c.in_default.ensures.value in
    let a = c.args in
    let r = outside_is a.file.now a.correction.now a.event a.out.now fine (le-ltb a.event (decode a.file.now).events.count (omega (arith, c.if-event_count-event.true))) in
    record { value = r.0; out_after = r.1 }

pub returns-then-out-lt-COUNTED_LENGTH : goal.returns-then-out-lt-COUNTED_LENGTH
returns-then-out-lt-COUNTED_LENGTH c =
    let counted : c.event_count.result ≡ (decode c.args.file.now).events.count = c.event_count.ensures ∙ count_is _ c.args.file.now _ c.of-case.ensures.format c.of-case.ensures.events in
    let fine : let a = c.args in refusal a.file.now a.correction.now (most_rows a.file.now) ≡ 0 = sym c.in_default.ensures.value in
    let a = c.args in
    let r = short_is a.file.now a.correction.now a.event a.out.now fine (lt-ltb a.event (decode a.file.now).events.count (omega (arith, c.if-event_count-event.false)))
    (lt-ltb (length a.out.now) counted_length c.if-out-lt-COUNTED_LENGTH.true) in
    record { value = r.0; out_after = r.1 }

pub counted_at-requires : goal.counted_at-requires
counted_at-requires c =
    let counted : c.event_count.result ≡ (decode c.args.file.now).events.count = c.event_count.ensures ∙ count_is _ c.args.file.now _ c.of-case.ensures.format c.of-case.ensures.events in
    let fine : let a = c.args in refusal a.file.now a.correction.now (most_rows a.file.now) ≡ 0 = sym c.in_default.ensures.value in
    let accepted : AcceptedFile c.args.file.now = record { correction = c.args.correction.now; rows_length = most_rows c.args.file.now; accepted = fine } in
    let h = c.in_default.ensures.handed_on in
    record { accepted_file = (accepted, omega (arith, c.if-event_count-event.false), omega (arith, c.if-out-lt-COUNTED_LENGTH.false)); places_found = h.placed; levels_found = h.levelled }

pub returns : goal.returns
returns c =
    let counted : c.event_count.result ≡ (decode c.args.file.now).events.count = c.event_count.ensures ∙ count_is _ c.args.file.now _ c.of-case.ensures.format c.of-case.ensures.events in
    let fine : let a = c.args in refusal a.file.now a.correction.now (most_rows a.file.now) ≡ 0 = sym c.in_default.ensures.value in
    let a = c.args in
    let r =
    counted_is a.file.now a.correction.now a.event a.out.now fine (lt-ltb a.event (decode a.file.now).events.count (omega (arith, c.if-event_count-event.false)))
    (le-ltb (length a.out.now) counted_length (omega (arith, c.if-out-lt-COUNTED_LENGTH.false))) in
    record { value = r.0; out_after = c.counted_at.ensures ∙ r.1 }

pub of-case-requires : goal.of-case-requires
of-case-requires c =
    let a : AcceptedFile c.args.file.now = record { correction = c.args.correction.now; rows_length = most_rows c.args.file.now; accepted = sym c.in_default.ensures.value } in
    record { units = has_section _ a 0 (omega arith); references = has_section _ a 1 (omega arith); past = has_section _ a 2 (omega arith); events = has_section _ a 3 (omega arith) }
