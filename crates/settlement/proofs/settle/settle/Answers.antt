use mathlib.Core.Path.{◌≡◌, ◌∙◌, sym}
use native.Mathlib.Omega.{arith}
use lib.ListN.{length}
use Rattle.limits.specs.Refusal.{refusal}
use Rattle.limits.proofs.RefusalLaws.{refusal_not_0}
use Rattle.limits.proofs.AcceptedLaws as case
use Rattle.limits.specs.StageChecked.{AcceptedFile, HandedOn}
use Rattle.casefile.proofs.RecordLaws.{count_is}
use Rattle.settlement.proofs.SettleLaws.{refused_answer_is, refused_told, settled_told, refused_rows, settled_answer, settled_rows}
use Rattle.settlement.proofs.settle.settle.Goals as goal

pub returns-in-Err : goal.returns-in-Err
returns-in-Err c =
    let a = c.args in
    let broken = c.from.ensures ∙ c.in-Err.ensures.value in
    let e = refused_answer_is a.file.now a.correction.now _ _ broken (λ z. refusal_not_0 _ (sym c.from.ensures ∙ z)) in
    record {
      value = refused_told _ _ e (λ z. refusal_not_0 _ (sym c.from.ensures ∙ z));
      rows_after = refused_rows a.file.now a.correction.now a.rows.now _ broken (λ z. refusal_not_0 _ (sym c.from.ensures ∙ z));
    }

pub settle_accepted-totals-requires : goal.settle_accepted-totals-requires
settle_accepted-totals-requires c =
    let fine : let a = c.args in refusal a.file.now a.correction.now (length a.rows.now) ≡ 0 = sym c.in_default.ensures.value in
    let accepted : AcceptedFile c.args.file.now = let a = c.args in record { correction = a.correction.now; rows_length = length a.rows.now; accepted = fine } in
    let handed : let a = c.args in
    HandedOn a.file.now a.correction.now c.check_into-checked.new.places c.check_into-checked.new.levels
    c.check_into-checked.new.corrects = c.in_default.ensures.handed_on in
    let a = c.args in
    record { accepted_file = (accepted, handed.placed); levels_found = handed.levelled; has_room = case.rows_long a.file.now a.correction.now _ fine }

pub of-requires : goal.of-requires
of-requires c =
    let fine : let a = c.args in refusal a.file.now a.correction.now (length a.rows.now) ≡ 0 = sym c.in_default.ensures.value in
    let within = case.has_section c.args.file.now c.args.correction.now _ fine in
    record { units = within 0 (omega arith); references = within 1 (omega arith); past = within 2 (omega arith); events = within 3 (omega arith) }

pub returns : goal.returns
returns c =
    let handed : let a = c.args in
    HandedOn a.file.now a.correction.now c.check_into-checked.new.places c.check_into-checked.new.levels
    c.check_into-checked.new.corrects = c.in_default.ensures.handed_on in
    let fine : let a = c.args in refusal a.file.now a.correction.now (length a.rows.now) ≡ 0 = sym c.in_default.ensures.value in
    let a = c.args in
    let s = c.settle_accepted-totals.ensures in
    let n = c.event_count.ensures ∙ count_is _ a.file.now _ c.of.ensures.format c.of.ensures.events in record { value = settled_told _ _ _ _ (settled_answer a.file.now a.correction.now _ _ _ handed _ _ _ fine n s.value); rows_after = settled_rows a.file.now a.correction.now _ _ _ handed a.rows.now _ fine s.rows_after }
