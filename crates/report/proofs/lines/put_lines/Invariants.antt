-- At the loop's head the lines of the first i events stand in out.
use Prim.Native.Nat.{◌≤◌, ◌*◌}
use mathlib.Core.Path.{◌≡◌}
use lib.ListN.{length}
use Rattle.casefile.specs.Decode.{events_in}
use Rattle.report.specs.StagePut.{Put}
use Rattle.report.specs.Line.{lines_to}
use Rattle.report.proofs.lines.put_lines.Given as goal

abbrev pub invariant-loop-i : goal.invariant-loop-i
invariant-loop-i l =
    (l.at ≤ 210 * l.i) × (length l.out ≡ length l.initial.out) × Put l.initial.out 0 (lines_to l.case.format l.i (events_in l.case.format l.case.events.now) l.rows) l.out l.at
