use mathlib.Core.Path.{◌≡◌, sym, ◌∙◌}
use Rattle.tariff.specs.DefaultBidRules.{restores}
use Rattle.casefile.specs.Decode.{events_in}
use Rattle.casefile.specs.StageRead.{event_at}
use Rattle.make_up_terms.specs.StageMakeUp.{restored_by}
use Rattle.make_up_terms.proofs.MakeUpLaws.{restored_mask}
use Rattle.make_up_terms.proofs.make_up_working.restored_mask.Goals as goal

pub returns-then-restores : goal.returns-then-restores
unfolding restored_by event_at
returns-then-restores c =
    let asked : let a = c.args in
    c.restores.result ≡ restores ((events_in a.case.format a.case.events.now).component a.i) a.level a.correct = rw c.event_at-event.ensures at c.restores.ensures in
    let a = c.args in
    rw (sym asked ∙ c.if-restores.true, c.passing_hours.ensures, c.failing_with-failing.ensures)
    (restored_mask a.case.format a.case.units.now a.case.events.now a.place a.correct a.mitigated a.i)

pub returns : goal.returns
unfolding restored_by event_at
returns c =
    let asked : let a = c.args in
    c.restores.result ≡ restores ((events_in a.case.format a.case.events.now).component a.i) a.level a.correct = rw c.event_at-event.ensures at c.restores.ensures in
    rw (sym asked ∙ c.if-restores.false)
