use Prim.Native.Nat.{◌-◌, ◌≤◌}
use mathlib.Core.Path.{◌≡◌}
use lib.ListN.{length}
use Rattle.binary.specs.Lists.{Holds}
use Rattle.casefile.specs.Layout.{most_events}
use Rattle.casefile.specs.Decode.{decode}
use Rattle.sanctions.specs.Penalties.{penalty}
use Rattle.penalty_terms.proofs.penalty_working.row_sanction.Given as goal

abbrev pub invariant-loop-i : goal.invariant-loop-i
invariant-loop-i l =
    (length l.penalties ≡ most_events) × Holds l.i l.penalties (penalty (decode l.file))
