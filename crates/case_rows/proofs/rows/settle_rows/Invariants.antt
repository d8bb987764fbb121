use Prim.Native.Nat.{ℕ, ◌-◌, ◌*◌, ◌≤◌}
use mathlib.Core.List.{◌++◌}
use mathlib.Core.Path.{◌≡◌}
use lib.ListN.{length, drop}
use Rattle.binary.specs.Bounded.{sum_to}
use Rattle.binary.specs.Lists.{join_to, Holds}
use Rattle.casefile.specs.Layout.{row_width, most_events}
use Rattle.casefile.specs.Decode.{format_in, decode}
use Rattle.sanctions.specs.Penalties.{penalty}
use Rattle.default_bids.specs.StageFigures.{highest_make_up}
use Rattle.case_rows.specs.StageRow.{written_row}
use Rattle.case_rows.specs.StageRows.{row_in}
use Rattle.case_rows.proofs.rows.settle_rows.Given as goal

abbrev pub invariant-loop-i : goal.invariant-loop-i
invariant-loop-i l =
    (length l.rows ≡ length l.initial.rows) × (l.rows ≡ join_to l.i (λ (j : ℕ). written_row (row_in l.file l.levels l.corrects j)) ++ drop (row_width (format_in l.file) * l.i) l.initial.rows) × (length l.penalties ≡ most_events) × Holds l.i l.penalties (penalty (decode l.file)) × (l.total ≡ sum_to l.i (penalty (decode l.file))) × (l.due ≡ sum_to l.i (λ (j : ℕ). (row_in l.file l.levels l.corrects j).make_up)) × (l.due ≤ highest_make_up * l.i)
