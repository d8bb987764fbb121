use Rattle.casefile.specs.StageRead.{event_at}
use Rattle.party_runs.proofs.StageLaws.{leader_bid, leader_from}
use Rattle.party_runs.proofs.parties.event_leader.Goals as goal

pub returns-then-kind-eq4 : goal.returns-then-kind-eq4
unfolding event_at
returns-then-kind-eq4 c = leader_bid _ _ _ (rw c.event_at-event.ensures at c.if-kind-eq4.true)

pub returns : goal.returns
unfolding event_at
returns c =
    leader_from _ _ _ _ _ c.requires.run_start (rw c.event_at-event.ensures at c.if-kind-eq4.false) c.leader.ensures
