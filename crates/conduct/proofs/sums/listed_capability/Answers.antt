use Rattle.casefile.specs.StageRead.{unit_at, event_at}
use Rattle.conduct.proofs.FlagLaws.{capability_none, capability_found}
use Rattle.conduct.proofs.sums.listed_capability.Goals as goal

pub returns-then-kind-ne1 : goal.returns-then-kind-ne1
unfolding unit_at event_at
returns-then-kind-ne1 c =
    let a = c.args in
    capability_none a.case.format a.case.units.now a.case.events.now a.i (rw c.event_at-event.ensures at c.if-kind-ne1.true)

pub returns : goal.returns
unfolding unit_at event_at
returns c =
    let a = c.args in
    capability_found a.case.format a.case.units.now a.case.events.now a.i _ _ (rw c.event_at-event.ensures at c.if-kind-ne1.false) c.requires.place_found
    (rw c.unit_at-unit.ensures at c.group_capability.ensures)
