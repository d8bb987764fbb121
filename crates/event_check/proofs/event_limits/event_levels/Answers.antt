use mathlib.Core.Bool.{true, false}
use mathlib.Core.Path.{sym, ◌∙◌}
use Rattle.limits.proofs.LookupLaws.{level_there, level_missing}
use Rattle.casefile.specs.Decode.{events_in}
use Rattle.casefile.specs.StageRead.{event_at}
use Rattle.event_check.proofs.CheckedLaws.{levels_none, levels_missing, levels_own, levels_both}
use Rattle.event_check.proofs.event_limits.event_levels.Goals as goal

pub returns-then-event-ne4 : goal.returns-then-event-ne4
unfolding event_at
returns-then-event-ne4 c =
    let s = c.args in
    levels_none _ _ (events_in s.case.format s.case.events.now) s.i (rw c.event_at-event.ensures at c.if-event-ne4.true)

pub returns-in_err-level : goal.returns-in_err-level
unfolding event_at
returns-in_err-level c =
    let s = c.args in
    let e = c.event_at-event.ensures in
    let kind = rw e at c.if-event-ne4.false in
    rw c.from_residual.ensures
    (levels_missing _ _ (events_in s.case.format s.case.events.now) s.i kind (rw e at (sym c.in_err-level.was ∙ c.level_of.ensures)))

pub returns-then-not-reads_correct : goal.returns-then-not-reads_correct
unfolding event_at
returns-then-not-reads_correct c =
    let s = c.args in
    let e = c.event_at-event.ensures in
    let kind = rw e at c.if-event-ne4.false in
    let reads = rw e at (sym c.reads_correct.ensures ∙ c.if-not-reads_correct.true) in
    let own = level_there _ _ _ _ (rw e at (sym c.in_ok-level.was ∙ c.level_of.ensures)) in
    levels_own _ _ (events_in s.case.format s.case.events.now) s.i kind true _ (sym own.0) (λ q. own.1) reads

pub correct_level-requires : goal.correct_level-requires
correct_level-requires c =
    record { in_order = c.requires.2; is_own = λ z. rw (c.requires.3 z) (sym c.in_ok-level.was ∙ c.level_of.ensures) }

pub returns-in_err-correct : goal.returns-in_err-correct
unfolding event_at
returns-in_err-correct c =
    let s = c.args in
    let e = c.event_at-event.ensures in
    let kind = rw e at c.if-event-ne4.false in
    let reads = rw e at (sym c.reads_correct.ensures ∙ c.if-not-reads_correct.false) in
    rw c.from_residual-in_err-correct.ensures
    (let own = level_there _ _ _ _ (rw e at (sym c.in_ok-level.was ∙ c.level_of.ensures)) in
    levels_both _ _ (events_in s.case.format s.case.events.now) s.i kind true _ (sym own.0) (λ q. own.1) reads false 0
    (sym (level_missing _ _ _ (rw e at (sym c.in_err-correct.was ∙ c.correct_level.ensures)))) (λ q. absurd (cc)))

pub returns : goal.returns
unfolding event_at
returns c =
    let s = c.args in
    let e = c.event_at-event.ensures in
    let kind = rw e at c.if-event-ne4.false in
    let reads = rw e at (sym c.reads_correct.ensures ∙ c.if-not-reads_correct.false) in
    let own = level_there _ _ _ _ (rw e at (sym c.in_ok-level.was ∙ c.level_of.ensures)) in
    let other = level_there _ _ _ _ (rw e at (sym c.in_ok-correct.was ∙ c.correct_level.ensures)) in
    levels_both _ _ (events_in s.case.format s.case.events.now) s.i kind true _ (sym own.0) (λ q. own.1) reads true _ (sym other.0) (λ q. other.1)
