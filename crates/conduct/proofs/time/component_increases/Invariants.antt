use mathlib.Core.Path.{◌≡◌}
use lib.ListN.{length}
use Rattle.binary.specs.Lists.{Holds}
use Rattle.casefile.specs.Layout.{most_hours}
use Rattle.conduct.specs.StageTime.{component_increase}
use Rattle.conduct.proofs.time.component_increases.Given as goal

abbrev pub invariant-loop-j : goal.invariant-loop-j
invariant-loop-j l =
    (length l.row ≡ most_hours) × Holds most_hours l.row (component_increase l.case.format l.case.events.now l.levels l.i l.component l.j)
