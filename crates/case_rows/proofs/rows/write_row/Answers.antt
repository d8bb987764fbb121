use mathlib.Core.Path.{◌∙◌, ap, sym}
use lib.ListN.{length}
use Rattle.case_rows.proofs.WriteLaws.{row_stored, row_bytes_length}
use Rattle.case_rows.proofs.rows.write_row.Goals as goal

pub write_bids-requires : goal.write_bids-requires
write_bids-requires c =
    c.store-9.auto.s ∙ c.store-8.auto.s ∙ c.store-7.auto.s ∙ c.store-6.auto.s ∙ c.store-5.auto.s
    ∙ c.store-4.auto.s ∙ c.store-3.auto.s ∙ c.store-2.auto.s ∙ c.store.auto.s ∙ c.requires

pub returns : goal.returns
returns c =
    row_stored c.args.r _ _ _ _ _ _ _ _ _ _ _ c.requires c.store.ensures c.store-2.ensures
    c.store-3.ensures c.store-4.ensures c.store-5.ensures c.store-6.ensures c.store-7.ensures
    c.store-8.ensures c.store-9.ensures c.write_bids.ensures

pub shape_of-row : goal.shape_of-row
shape_of-row c =
    ap length (returns c) ∙ row_bytes_length _ ∙ sym c.requires
