use mathlib.Core.List.{[]}
use Rattle.casefile.specs.Decode.{events_in, case_in}
use Rattle.conduct.specs.StageTime.{total_before}
use Rattle.conduct.specs.StageFlags.{HasRow, EndCarried, Flagged}
use Rattle.conduct.proofs.flags.flag_masks.Given as goal

abbrev pub invariant-loop-i : goal.invariant-loop-i
invariant-loop-i l =
    HasRow (total_before (case_in l.case.format [] [] [] l.case.events.now) l.levels l.i) l.totals × EndCarried (events_in l.case.format l.case.events.now) l.i l.end × Flagged l.case.format l.case.units.now l.case.events.now l.leaders l.levels l.i l.masks
