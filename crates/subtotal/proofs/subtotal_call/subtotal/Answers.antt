use mathlib.Core.List.{[]}
use mathlib.Core.Path.{◌≡◌, sym, ◌∙◌}
use native.Mathlib.Omega.{arith}
use Rattle.casefile.specs.Decode.{decode}
use Rattle.limits.proofs.RefusalLaws.{refusal_not_0}
use Rattle.limits.specs.Refusal.{refusal, most_rows}
use Rattle.limits.specs.StageChecked.{AcceptedFile}
use Rattle.conduct.proofs.FileLaws.{has_section}
use Rattle.subtotal.specs.Subtotal.{is_fuel_event}
use Rattle.subtotal.proofs.PartLaws.{fuel_is, fuel_event, refused_is, given_is, other_is}
use Rattle.subtotal.proofs.subtotal_call.subtotal.Goals as goal

pub returns-in-Err : goal.returns-in-Err
returns-in-Err c =
    let a = c.args in
    refused_is a.file.now a.event _ (c.from-number.ensures ∙ c.in-Err.ensures.value) (λ z. refusal_not_0 _ (sym c.from-number.ensures ∙ z))

pub of-requires : goal.of-requires
of-requires c =
    let a : AcceptedFile c.args.file.now = record { correction = []; rows_length = most_rows c.args.file.now; accepted = sym c.in_default.ensures.value } in
    record { units = has_section _ a 0 (omega arith); references = has_section _ a 1 (omega arith); past = has_section _ a 2 (omega arith); events = has_section _ a 3 (omega arith) }

pub part_at-requires : goal.part_at-requires
part_at-requires c =
    let fuel : c.is_fuel.result ≡ is_fuel_event (decode c.args.file.now) c.args.event = c.is_fuel.ensures ∙ fuel_is c.args.file.now c.args.event _ _ c.of.ensures.format c.of.ensures.events in
    let fine : refusal c.args.file.now [] (most_rows c.args.file.now) ≡ 0 = sym c.in_default.ensures.value in
    let accepted : AcceptedFile c.args.file.now = record { correction = []; rows_length = most_rows c.args.file.now; accepted = fine } in
    let h = c.in_default.ensures.handed_on in
    let q = fuel_event (decode c.args.file.now) c.args.event (sym fuel ∙ c.if-is_fuel.true) in
    record { accepted_file = (accepted, q.0, q.1); places_found = h.placed; levels_found = h.levelled }

pub returns-then-is_fuel : goal.returns-then-is_fuel
returns-then-is_fuel c =
    let fine : refusal c.args.file.now [] (most_rows c.args.file.now) ≡ 0 = sym c.in_default.ensures.value in
    let fuel : c.is_fuel.result ≡ is_fuel_event (decode c.args.file.now) c.args.event = c.is_fuel.ensures ∙ fuel_is c.args.file.now c.args.event _ _ c.of.ensures.format c.of.ensures.events in
    given_is c.args.file.now c.args.event _ fine (sym fuel ∙ c.if-is_fuel.true) c.part_at.ensures

pub returns : goal.returns
returns c =
    let fine : refusal c.args.file.now [] (most_rows c.args.file.now) ≡ 0 = sym c.in_default.ensures.value in
    let fuel : c.is_fuel.result ≡ is_fuel_event (decode c.args.file.now) c.args.event = c.is_fuel.ensures ∙ fuel_is c.args.file.now c.args.event _ _ c.of.ensures.format c.of.ensures.events in
    other_is c.args.file.now c.args.event fine (sym fuel ∙ c.if-is_fuel.false)
