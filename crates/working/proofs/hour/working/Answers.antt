use mathlib.Core.Path.{◌≡◌, ◌∙◌, sym}
use native.Mathlib.Omega.{arith}
use Rattle.casefile.specs.Decode.{decode}
use Rattle.limits.proofs.RefusalLaws.{refusal_not_0}
use Rattle.limits.specs.Refusal.{refusal, most_rows}
use Rattle.limits.specs.StageChecked.{AcceptedFile}
use Rattle.casefile.proofs.RecordLaws.{count_is}
use Rattle.conduct.proofs.FileLaws.{has_section, header_long}
use Rattle.working.proofs.WorkingLaws.{inside, refused_is, working_is, outside_is}
use Rattle.working.proofs.hour.working.Goals as goal

pub returns-in-Err : goal.returns-in-Err
returns-in-Err c =
    let a = c.args in
    c.refused_working.ensures ∙ refused_is a.file.now a.correction.now _ _ _ (c.from.ensures ∙ c.in-Err.ensures.value) (λ z. refusal_not_0 _ (sym c.from.ensures ∙ z))

pub working_at-requires : goal.working_at-requires
working_at-requires c =
    let counted : c.event_count.result ≡ (decode c.args.file.now).events.count = c.event_count.ensures ∙ count_is _ c.args.file.now _ c.of-case.ensures.format c.of-case.ensures.events in
    let fine : let a = c.args in refusal a.file.now a.correction.now (most_rows a.file.now) ≡ 0 = sym c.in_default.ensures.value in
    let accepted : AcceptedFile c.args.file.now = record { correction = c.args.correction.now; rows_length = most_rows c.args.file.now; accepted = fine } in
    let a = c.args in
    let h = c.in_default.ensures.handed_on in
    let l = inside a.event _ a.hour (rw counted at c.if-event-event_count.true) in
    record { accepted_file = (accepted, l.0, l.1); places_found = h.placed; levels_found = h.levelled }

pub returns-then-event-event_count : goal.returns-then-event-event_count
returns-then-event-event_count c =
    let fine : let a = c.args in refusal a.file.now a.correction.now (most_rows a.file.now) ≡ 0 = sym c.in_default.ensures.value in
    let counted : c.event_count.result ≡ (decode c.args.file.now).events.count = c.event_count.ensures ∙ count_is _ c.args.file.now _ c.of-case.ensures.format c.of-case.ensures.events in
    let a = c.args in
    c.working_at.ensures
    ∙ working_is a.file.now a.correction.now a.event a.hour fine (rw counted at c.if-event-event_count.true)

pub returns : goal.returns
returns c =
    let fine : let a = c.args in refusal a.file.now a.correction.now (most_rows a.file.now) ≡ 0 = sym c.in_default.ensures.value in
    let counted : c.event_count.result ≡ (decode c.args.file.now).events.count = c.event_count.ensures ∙ count_is _ c.args.file.now _ c.of-case.ensures.format c.of-case.ensures.events in
    let a = c.args in
    c.refused_working-2.ensures
    ∙ outside_is a.file.now a.correction.now a.event a.hour fine (rw counted at c.if-event-event_count.false)

pub of-case-requires : goal.of-case-requires
of-case-requires c =
    let a : AcceptedFile c.args.file.now = record { correction = c.args.correction.now; rows_length = most_rows c.args.file.now; accepted = sym c.in_default.ensures.value } in
    record { units = has_section _ a 0 (omega arith); references = has_section _ a 1 (omega arith); past = has_section _ a 2 (omega arith); events = has_section _ a 3 (omega arith) }
