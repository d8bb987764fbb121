use borrow.Author.Rules.{rules}
use native.Mathlib.Omega.{arith}
use Rattle.party_runs.proofs.PartyLaws.{run_first}
use Rattle.party_runs.proofs.parties.party_leaders.Goals as goal

pub loop-i-init : goal.loop-i-init
loop-i-init c = (search rules, run_first _, λ k z. absurd (omega arith))
