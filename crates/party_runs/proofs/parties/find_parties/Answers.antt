use mathlib.Core.List.{[]}
use mathlib.Core.Path.{◌∙◌}
use Rattle.party_runs.proofs.StageLaws.{leader_in_is}
use Rattle.party_runs.proofs.parties.find_parties.Goals as goal

pub returns : goal.returns
returns c =
    let a = c.args in record { grouped = c.party_groups.ensures; led = (λ i m. c.party_leaders.ensures i m ∙ leader_in_is a.case.format a.case.units.now [] [] a.case.events.now _ _ i c.party_groups.ensures m) }
