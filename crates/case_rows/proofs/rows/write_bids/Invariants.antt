use Prim.Native.Nat.{◌≤◌, ◌-◌}
use mathlib.Core.Path.{◌≡◌}
use lib.Seq.{sets}
use Rattle.binary.specs.Lists.{join_to}
use Rattle.casefile.specs.Layout.{bids_offset, most_hours}
use Rattle.case_rows.specs.StageRow.{word_of}
use Rattle.case_rows.proofs.rows.write_bids.Given as goal

abbrev pub invariant-loop-h : goal.invariant-loop-h
invariant-loop-h l =
    l.row ≡ sets l.initial.row bids_offset (join_to l.h (word_of l.bids))
