use mathlib.Core.Path.{sym, ◌∙◌}
use borrow.Author.Tests.{le-leb, lt-leb}
use Rattle.casefile.specs.Decode.{units_in, events_in}
use Rattle.limits.specs.Refusal.{events_listed, amounts_fine, rows_fine}
use Rattle.limits.specs.StageRefusal.{found_refusal}
use Rattle.limits.proofs.RefusalLaws.{passed, either_broken, err_number, refusal_not_0}
use Rattle.case_check.proofs.check.found_refusal.Goals as goal

pub unit_refusal-requires : goal.unit_refusal-requires
unit_refusal-requires c = (c.requires.0, c.requires.3)

pub returns-in_err-unit_refusal-clause-value : goal.returns-in_err-unit_refusal-clause-value
unfolding found_refusal
returns-in_err-unit_refusal-clause-value c =
    let s = c.args in
    let broken = c.in_err-unit_refusal.ensures.value in
    err_number _ _ c.from_residual.ensures.1
    ∙ broken
    ∙ either_broken 12 13 (events_listed (units_in s.case.format s.case.units.now) (events_in s.case.format s.case.events.now)) (amounts_fine s.case.format (units_in s.case.format s.case.units.now) s.case.events.now) _
    (λ e. refusal_not_0 _ (broken ∙ e))

pub returns-then-not-references_good-clause-value : goal.returns-then-not-references_good-clause-value
unfolding found_refusal
returns-then-not-references_good-clause-value c =
    let s = c.args in
    let p = passed (events_listed (units_in s.case.format s.case.units.now) (events_in s.case.format s.case.events.now)) 11 _ (sym c.in_ok-unit_refusal.ensures.value) in
    let q = passed (amounts_fine s.case.format (units_in s.case.format s.case.units.now) s.case.events.now) 12 _ p.1 in
    rw (p.0, q.0, ← c.references_found-references_good.ensures.value, c.if-not-references_good.true)

pub returns-then-rows_length-rows-clause-value : goal.returns-then-rows_length-rows-clause-value
unfolding found_refusal rows_fine
returns-then-rows_length-rows-clause-value c =
    let s = c.args in
    let p = passed (events_listed (units_in s.case.format s.case.units.now) (events_in s.case.format s.case.events.now)) 11 _ (sym c.in_ok-unit_refusal.ensures.value) in
    let q = passed (amounts_fine s.case.format (units_in s.case.format s.case.units.now) s.case.events.now) 12 _ p.1 in
    let short = rw c.event_count-rows.ensures at (lt-leb _ _ c.if-rows_length-rows.true) in
    rw (p.0, q.0, ← c.references_found-references_good.ensures.value, c.if-not-references_good.false, short)

pub returns-clause-value : goal.returns-clause-value
unfolding found_refusal rows_fine
returns-clause-value c =
    let s = c.args in
    let p = passed (events_listed (units_in s.case.format s.case.units.now) (events_in s.case.format s.case.events.now)) 11 _ (sym c.in_ok-unit_refusal.ensures.value) in
    let q = passed (amounts_fine s.case.format (units_in s.case.format s.case.units.now) s.case.events.now) 12 _ p.1 in
    let room = rw c.event_count-rows.ensures at (le-leb _ _ c.if-rows_length-rows.false) in
    rw (p.0, q.0, ← c.references_found-references_good.ensures.value, c.if-not-references_good.false, room)
