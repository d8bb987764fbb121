use Rattle.party_runs.proofs.PartyLaws.{run_here}
use Rattle.party_runs.proofs.parties.run_end.Goals as goal

pub loop-end-init : goal.loop-end-init
loop-end-init c = run_here _ _
