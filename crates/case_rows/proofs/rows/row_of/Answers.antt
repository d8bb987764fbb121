use Rattle.case_rows.specs.StageRow.{table_row}
use Rattle.case_rows.proofs.RowsLaws.{row_made}
use Rattle.case_rows.proofs.rows.row_of.Goals as goal

pub returns : goal.returns
unfolding table_row
returns c = record { value = row_made _ _ _ _ _ _ _ _ _ _ _ _ c.mitigated_mask-mitigated.ensures c.bids_in_force-bids.ensures c.event_make_up-make_up.ensures.0; make_up_in_range = c.event_make_up-make_up.ensures.1 }
