use mathlib.Core.Bool.{◌&&◌}
use mathlib.Core.Path.{◌≡◌, ◌∙◌}
use Rattle.casefile.specs.Decode.{past_in, events_in}
use Rattle.limits.specs.Refusal.{days_fine}
use Rattle.limits.specs.StageRefusal.{events_in_calendar}
use Rattle.calendar_check.proofs.CalendarLaws.{past_in_calendar, none_broken, period_broken, day_broken}
use Rattle.calendar_check.proofs.calendar_limits.calendar_refusal.Goals as goal

pub returns-then-past_dated-events_dated : goal.returns-then-past_dated-events_dated
returns-then-past_dated-events_dated c =
    let looked : (past_in_calendar (past_in c.args.case.past.now) (events_in c.args.case.format c.args.case.events.now) && events_in_calendar (events_in c.args.case.format c.args.case.events.now))
    ≡ (c.past_in_calendar-past_dated.result && c.args.events_dated) = rw (c.past_in_calendar-past_dated.ensures, c.requires) in
    none_broken _ _ (looked ∙ c.if-past_dated-events_dated.true)

pub returns-then-past_days-event_days : goal.returns-then-past_days-event_days
unfolding days_fine
returns-then-past_days-event_days c =
    let looked : let s = c in
    (past_in_calendar (past_in s.args.case.past.now) (events_in s.args.case.format s.args.case.events.now) && events_in_calendar (events_in s.args.case.format s.args.case.events.now))
    ≡ (c.past_in_calendar-past_dated.result && s.args.events_dated) = rw (c.past_in_calendar-past_dated.ensures, c.requires) in
    let days : let s = c.args in
    days_fine (past_in s.case.past.now) (events_in s.case.format s.case.events.now) ≡ (c.past_days_fine-past_days.result && c.event_days_fine-event_days.result) = rw (c.past_days_fine-past_days.ensures, c.event_days_fine-event_days.ensures) in
    period_broken _ _ (looked ∙ c.if-past_dated-events_dated.false) (days ∙ c.if-past_days-event_days.true)

pub returns : goal.returns
unfolding days_fine
returns c =
    let days : let s = c.args in
    days_fine (past_in s.case.past.now) (events_in s.case.format s.case.events.now) ≡ (c.past_days_fine-past_days.result && c.event_days_fine-event_days.result) = rw (c.past_days_fine-past_days.ensures, c.event_days_fine-event_days.ensures) in
    day_broken _ _ (days ∙ c.if-past_days-event_days.false)
