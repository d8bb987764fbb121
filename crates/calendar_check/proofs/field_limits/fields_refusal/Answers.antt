use mathlib.Core.Bool.{true, false}
use mathlib.Core.Path.{◌≡◌, sym, ap, ◌∙◌}
use Rattle.casefile.specs.Decode.{past_in, events_in}
use Rattle.limits.specs.Numbers.{refusal_number}
use Rattle.limits.specs.Refusal.{days_fine, periods_fine, order_fine}
use Rattle.limits.specs.StageRefusal.{fields_refusal}
use Rattle.limits.proofs.RefusalLaws.{passed, either_broken, err_number, refusal_not_0}
use Rattle.event_check.specs.declared.event_limits.EventOrder.{EventOrder}
use Rattle.event_check.proofs.EventLaws.{unread, read}
use Rattle.calendar_check.proofs.field_limits.fields_refusal.Goals as goal

pub returns-in_err-order : goal.returns-in_err-order
unfolding fields_refusal
returns-in_err-order c =
    let s = c.args in
    let u = unread s.case.format s.case.events.now _ (sym c.in_err-order.was ∙ c.order_refusal.ensures.value) in
    rw u.0 (err_number _ _ c.from_residual.ensures.1 ∙ ap refusal_number u.1)

pub calendar_refusal-requires : goal.calendar_refusal-requires
calendar_refusal-requires c =
    let s = c.args in
    ap (λ (x : EventOrder). x.dated) (read s.case.format s.case.events.now _ (sym c.in_ok-order.was ∙ c.order_refusal.ensures.value)).1

pub returns-in_err-calendar_refusal : goal.returns-in_err-calendar_refusal
unfolding fields_refusal
returns-in_err-calendar_refusal c =
    let s = c.args in
    let o = read s.case.format s.case.events.now _ (sym c.in_ok-order.was ∙ c.order_refusal.ensures.value) in
    let broken = c.in_err-calendar_refusal.ensures in
    rw o.0
    (err_number _ _ c.from_residual-in_err-calendar_refusal.ensures.1
    ∙ broken
    ∙ either_broken 18 19 (days_fine (past_in s.case.past.now) (events_in s.case.format s.case.events.now)) (periods_fine (past_in s.case.past.now) (events_in s.case.format s.case.events.now)) _
    (λ z. refusal_not_0 _ (broken ∙ z)))

pub returns-then-order : goal.returns-then-order
unfolding fields_refusal
returns-then-order c =
    let s = c.args in
    let o = read s.case.format s.case.events.now _ (sym c.in_ok-order.was ∙ c.order_refusal.ensures.value) in
    let d = passed (days_fine (past_in s.case.past.now) (events_in s.case.format s.case.events.now)) 17 _ (sym c.in_ok-calendar_refusal.ensures) in
    let p = passed (periods_fine (past_in s.case.past.now) (events_in s.case.format s.case.events.now)) 18 _ d.1 in
    let rising : order_fine (events_in s.case.format s.case.events.now) ≡ true = sym (ap (λ (x : EventOrder). x.rising) o.1) ∙ c.if-order.true in
    rw (o.0, d.0, p.0, rising)

pub returns : goal.returns
unfolding fields_refusal
returns c =
    let s = c.args in
    let o = read s.case.format s.case.events.now _ (sym c.in_ok-order.was ∙ c.order_refusal.ensures.value) in
    let d = passed (days_fine (past_in s.case.past.now) (events_in s.case.format s.case.events.now)) 17 _ (sym c.in_ok-calendar_refusal.ensures) in
    let p = passed (periods_fine (past_in s.case.past.now) (events_in s.case.format s.case.events.now)) 18 _ d.1 in
    let rising : order_fine (events_in s.case.format s.case.events.now) ≡ false = sym (ap (λ (x : EventOrder). x.rising) o.1) ∙ c.if-order.false in
    rw (o.0, d.0, p.0, rising)
