-- The rows of a file once its flags are found, r and c read in the tables that the check filled.
use Rattle.std.specs.Prelude.{ℕ, ◌*◌, List, ◌++◌, get_or, drop}
use Rattle.binary.specs.Bounded.{sum_to}
use Rattle.binary.specs.Lists.{join_to, Holds}
use Rattle.casefile.specs.Layout.{row_width}
use Rattle.casefile.specs.Decode.{format_in, section_of, decode}
use Rattle.casefile.specs.Lookup.{unit_of}
use Rattle.conduct.specs.Flags.{flag_mask}
use Rattle.sanctions.specs.Penalties.{total_penalty}
use Rattle.sanctions.specs.StageGiven.{FoundMasks}
use Rattle.sanctions.specs.StageTables.{sanction_of}
use Rattle.case_rows.specs.declared.rows.Row.{Row}
use Rattle.case_rows.specs.declared.rows.Totals.{Totals}
use Rattle.case_rows.specs.StageRow.{written_row, row_by}

-- of each event its unit's place, its group, the first event of its party and its flag mask
pub record FoundFlags (file places groups leaders masks : List ℕ) : Type 0 where
  pub placed : Holds (decode file).events.count places (unit_of (decode file))
  pub found : FoundMasks (decode file) (decode file).events.count groups leaders masks

-- the row of event i
unfoldable pub row_in : (file levels corrects : List ℕ) → ℕ → Row
row_in f levels corrects i =
    row_by (format_in f) (section_of f 0) (section_of f 3) (unit_of (decode f) i) (get_or levels i 0) (get_or corrects i 0) (flag_mask (decode f) i)
    (sanction_of (decode f) i) i

-- the buffer once every row is written; its bytes beyond the last row stay
unfoldable pub rows_in : (file levels corrects rows : List ℕ) → List ℕ
rows_in f levels corrects rows =
    join_to (decode f).events.count (λ i. written_row (row_in f levels corrects i)) ++ drop (row_width (format_in f) * (decode f).events.count) rows

unfoldable pub totals_in : (file levels corrects : List ℕ) → Totals
totals_in f levels corrects =
    record {
      penalties = total_penalty (decode f);
      make_ups = sum_to (decode f).events.count (λ i. (row_in f levels corrects i).make_up);
    }
