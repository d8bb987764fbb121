use mathlib.Core.Path.{sym, ◌∙◌}
use native.Mathlib.Omega.{arith}
use Rattle.std.proofs.lemmas.Result.{on_ok_weaker}
use Rattle.limits.proofs.RangeLaws.{event_numbers, numbers_in_order, references_in_order, correct_in_order}
use Rattle.limits.proofs.RefusalLaws.{header_fine, records_fine, has_section, refusal_header, refusal_records, refusal_fields, refusal_found, err_number, refusal_not_0}
use Rattle.limits.proofs.SectionLaws.{events_fit}
use Rattle.event_check.proofs.CheckedLaws.{handed_on}
use Rattle.case_check.proofs.check.check_into.Goals as goal

pub returns-in_err-header_refusal-clause-value : goal.returns-in_err-header_refusal-clause-value
returns-in_err-header_refusal-clause-value c =
    err_number _ _ c.from_residual.ensures.1 ∙ refusal_header _ _ _ _ c.in_err-header_refusal.ensures (refusal_not_0 _)

pub of-case-requires : goal.of-case-requires
of-case-requires c =
    let a = (header_fine _ 0 (sym c.in_ok-header_refusal.ensures)).0 in
    record { units = has_section _ a 0 (omega arith); references = has_section _ a 1 (omega arith); past = has_section _ a 2 (omega arith); events = has_section _ a 3 (omega arith) }

pub returns-in_err-records_refusal-clause-value : goal.returns-in_err-records_refusal-clause-value
returns-in_err-records_refusal-clause-value c =
    let broken = rw (c.of-case.ensures.events, c.of-case.ensures.past, c.of-case.ensures.references, c.of-case.ensures.units, c.of-case.ensures.format) at c.in_err-records_refusal.ensures in
    err_number _ _ c.from_residual-in_err-records_refusal.ensures.1
    ∙ refusal_records _ _ _ _ (sym c.in_ok-header_refusal.ensures) broken (refusal_not_0 _)

pub fields_refusal-requires : goal.fields_refusal-requires
fields_refusal-requires c = event_numbers _ _ _ _ (records_fine _ _ _ _ _ _ 0 (sym c.in_ok-records_refusal.ensures)).0.numbers_fine_holds

pub returns-in_err-fields_refusal-clause-value : goal.returns-in_err-fields_refusal-clause-value
returns-in_err-fields_refusal-clause-value c =
    let records = rw (c.of-case.ensures.events, c.of-case.ensures.past, c.of-case.ensures.references, c.of-case.ensures.units, c.of-case.ensures.format) at (sym c.in_ok-records_refusal.ensures) in
    let broken = rw (c.of-case.ensures.events, c.of-case.ensures.past, c.of-case.ensures.format) at c.in_err-fields_refusal.ensures in
    err_number _ _ c.from_residual-in_err-fields_refusal.ensures.1
    ∙ refusal_fields _ _ _ (sym c.in_ok-header_refusal.ensures) records _ broken (refusal_not_0 _)

pub found_refusal-requires : goal.found_refusal-requires
found_refusal-requires c =
    let f = (records_fine _ _ _ _ _ _ 0 (sym c.in_ok-records_refusal.ensures)).0 in
    let t = c.of-case.ensures.format in (
      numbers_in_order _ _ f.units_fine_holds,
      references_in_order _ _ _ f.references_fine_holds,
      correct_in_order _ _ _ _ f.references_fine_holds f.correction_fine_holds,
      rw (t, c.of-case.ensures.events) (events_fit _ (header_fine _ 0 (sym c.in_ok-header_refusal.ensures)).0),
    )

pub returns-clause-value : goal.returns-clause-value
returns-clause-value c =
    let records = rw (c.of-case.ensures.events, c.of-case.ensures.past, c.of-case.ensures.references, c.of-case.ensures.units, c.of-case.ensures.format) at (sym c.in_ok-records_refusal.ensures) in
    let fields = rw (c.of-case.ensures.events, c.of-case.ensures.past, c.of-case.ensures.format) at (sym c.in_ok-fields_refusal.ensures) in
    rw (
      ← refusal_found _ _ _ (sym c.in_ok-header_refusal.ensures) records fields,
      c.found_refusal.ensures.value,
      c.of-case.ensures.events,
      c.of-case.ensures.references,
      c.of-case.ensures.units,
      c.of-case.ensures.format,
    )

pub returns-clause-handed_on : goal.returns-clause-handed_on
returns-clause-handed_on c =
    on_ok_weaker _ (λ f. handed_on _ _ _ _ _ (rw (c.of-case.ensures.events, c.of-case.ensures.references, c.of-case.ensures.units, c.of-case.ensures.format) at f)) c.found_refusal.ensures.found
