use Rattle.casefile.specs.Decode.{events_in}
use Rattle.party_runs.proofs.PartyLaws.{run_turn}
use Rattle.party_runs.proofs.parties.run_start.Goals as goal

pub returns : goal.returns
returns c =
    run_turn (events_in c.args.case.format c.args.case.events.now) _ _ c.requires.in_range c.requires.runs_together c.requires.run_start _ _
    (rw c.place_before.ensures at c.same_run-goes_on.ensures) c.choose.ensures
