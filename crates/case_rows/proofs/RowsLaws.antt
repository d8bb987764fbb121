-- What the loop over the events finds is the row of the file.
use Prim.Native.Nat.{ℕ, ◌+◌, ◌*◌, ◌≤◌, ◌<◌}
use mathlib.Core.Bool.{true}
use mathlib.Core.List.{List, ◌++◌}
use mathlib.Core.Path.{◌≡◌, refl, ap, ◌∙◌}
use lib.ListN.{length, drop}
use Rattle.binary.specs.Bounded.{sum_to}
use Rattle.binary.specs.Lists.{list_to, join_to, Bytes, Holds}
use Rattle.binary.proofs.BoundedLaws.{sum_more}
use Rattle.casefile.specs.declared.layout.Format.{Format}
use Rattle.casefile.specs.Layout.{most_hours, most_events, row_width}
use Rattle.casefile.specs.Decode.{format_in, section_of, events_in, case_in, decode}
use Rattle.limits.specs.Refusal.{events_fine}
use Rattle.limits.proofs.AcceptedLaws as case
use Rattle.limits.specs.StageChecked.{AcceptedFile}
use Rattle.party_runs.proofs.PartyLaws.{accepted_runs}
use Rattle.sanctions.specs.declared.sanction.Sanction.{Sanction}
use Rattle.sanctions.specs.Penalties.{penalty, total_penalty}
use Rattle.sanctions.specs.StageGiven.{Sound}
use Rattle.sanctions.specs.StageTables.{row_at}
use Rattle.sanctions.proofs.AcceptedFigures as sanctions
use Rattle.sanctions.proofs.FoundLaws as sanctions_found
use Rattle.sanctions.proofs.FoundLaws.{SanctionTurn}
use Rattle.default_bids.specs.StageFigures.{mitigated_by, bid_by, make_up_by}
use Rattle.case_rows.specs.declared.rows.Row.{Row}
use Rattle.case_rows.specs.StageRow.{written_row, row_by, table_row}
use Rattle.case_rows.specs.StageRows.{FoundFlags, row_in, rows_in, totals_in}

module _ (f : List ℕ) (acc : AcceptedFile f) where
  pub few : (decode f).events.count ≤ most_events
  few = case.events_count f acc.correction acc.rows_length acc.accepted

  -- the format and the sections, as they are handed on
  module _ (format : Format) (u p e : List ℕ) (ef : format ≡ format_in f) (eu : u ≡ section_of f 0) (ep : p ≡ section_of f 2) (ee : e ≡ section_of f 3) where
    pub fine : events_fine format e ≡ true
    fine = rw (ef, ee) (case.fields f acc.correction acc.rows_length acc.accepted).events_fine_holds

    module _ (places groups leaders masks : List ℕ) (found : FoundFlags f places groups leaders masks) where
      pub sound : Bytes f → Sound format e leaders
      unfolding decode case_in
      sound b =
          rw (ef, ee)
          (sanctions_found.sound (format_in f) (section_of f 0) (section_of f 1) (section_of f 2) (section_of f 3) groups leaders masks
          (sanctions.accepted f acc.correction acc.rows_length acc.accepted) found.found (accepted_runs f acc.correction acc.rows_length b acc.accepted))

      module _ (i : ℕ) (l : i < (decode f).events.count) where
        pub turn : (s : Sanction) (penalties : List ℕ) (total : ℕ) → s ≡ row_at format p e groups leaders masks penalties i → i < length penalties
            → Holds i penalties (penalty (decode f)) → total ≡ sum_to i (penalty (decode f)) → SanctionTurn (decode f) i total s penalties
        unfolding decode case_in
        turn s penalties total q b held t =
            sanctions_found.sanction_turn (format_in f) (section_of f 0) (section_of f 1) (section_of f 2) (section_of f 3) groups leaders masks
            (sanctions.accepted f acc.correction acc.rows_length acc.accepted) found.found s penalties i total (q ∙ rw (ef, ep, ee)) l b held t

        pub row_is : (levels corrects penalties : List ℕ) (total : ℕ) (s : Sanction) (row : Row) → SanctionTurn (decode f) i total s penalties
            → row ≡ table_row format u e places levels corrects masks s i → row ≡ row_in f levels corrects i
        unfolding row_in table_row
        row_is levels corrects penalties total s row t er = er ∙ rw (ef, eu, ee, t.row, found.placed i l, found.found.mask_held i l)

-- the row whose figures were found one after the other
pub row_made : (format : Format) (u e : List ℕ) (place r c flags i : ℕ) (s : Sanction) (hours due : ℕ) (bids : List ℕ) → hours ≡ mitigated_by (events_in format e) i flags
    → bids ≡ list_to most_hours (bid_by format u e place r c hours i) → due ≡ make_up_by format e i r c hours
    → record { flags = flags; mitigated = hours; penalty = s.penalty; make_up = due; multiplier = s.multiplier; n3 = s.n3; n2 = s.n2; bids = bids }
    ≡ row_by format u e place r c flags s i
unfolding row_by
row_made format u e place r c flags i s hours due bids em eb ed = rw (eb, ed, em) refl

pub penalty_by : (format : Format) (u e places levels corrects masks : List ℕ) (i : ℕ) (s : Sanction) (row : Row) → row ≡ table_row format u e places levels corrects masks s i
    → row.penalty ≡ s.penalty
unfolding table_row row_by
penalty_by format u e places levels corrects masks i s row q = ap (λ (x : Row). x.penalty) q

module _ (f levels corrects : List ℕ) where
  -- the make-ups with one more
  pub due_more : (i due : ℕ) (row : Row) → due ≡ sum_to i (λ j. (row_in f levels corrects j).make_up) → row ≡ row_in f levels corrects i
      → due + row.make_up ≡ sum_to (i + 1) (λ j. (row_in f levels corrects j).make_up)
  due_more i due row d q = rw (d, q, sum_more)

  -- all rows
  pub rows_all : (rows₀ rows : List ℕ) (i total due : ℕ) → i ≡ (decode f).events.count → total ≡ sum_to i (penalty (decode f))
      → due ≡ sum_to i (λ j. (row_in f levels corrects j).make_up)
      → rows ≡ join_to i (λ j. written_row (row_in f levels corrects j)) ++ drop (row_width (format_in f) * i) rows₀
      → (record { penalties = total; make_ups = due } ≡ totals_in f levels corrects) × (rows ≡ rows_in f levels corrects rows₀)
  unfolding totals_in total_penalty rows_in
  rows_all rows₀ rows i total due e t d r = (rw (t, d, e) refl, rw e at r)
