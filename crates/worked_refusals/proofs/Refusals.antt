-- The examples of the table What a case can break, the listing's case and the empty case, by computation; and the limit
-- that decides, of one of them.
use Prim.Native.Nat.{ℕ}
use mathlib.Core.List.{[], ◌++◌}
use mathlib.Core.Path.{◌≡◌, refl, sym, ◌∙◌, subst}
use native.Mathlib.Omega.{arith}
use lib.ListN.{replicate}
use Rattle.binary.specs.Bounded.{any_to, all_to, last_to}
use Rattle.binary.specs.Bytes.{value_at, bytes_of}
use Rattle.binary.specs.Word.{positive_part, negative_part, within}
use Rattle.calendar.specs.Months.{month_length, month_start, month_from, month_of}
use Rattle.calendar.specs.Periods.{period_of}
use Rattle.tariff.specs.Ranges.{reference_in_range, bid_in_range}
use Rattle.casefile.specs.Layout.{first_widths, widths_of}
use Rattle.casefile.specs.Decode.{format_in, offset_of, length_of, section_of, record_at, units_in, references_in, violation_in, past_in, cells_from, cells_in, events_in, amounts_in, unit_spare_fine, reference_spare_fine, entry_spare_fine}
use Rattle.casefile.specs.Lookup.{is_unit, is_listed, place_of, is_reference, reference_key, has_reference, correct_references, reads_correct}
use Rattle.limits.specs.Refusal.{length_fine, version_fine, sections_fine, pairs_fine, size_fine, sizes_fine, record_numbers_fine, unit_numbers_fine, reference_numbers_fine, event_numbers_fine, numbers_fine, rises, unit_fields_fine, unit_fine, units_fine, reference_fields_fine, reference_fine, references_fine, correction_fine, violation_fine, entry_fine, past_fine, mask_fine, quantities_fine, fields_fine, cell_fine, hour_fine, event_fine, events_fine, days_fine, periods_fine, event_key, order_fine, event_listed, events_listed, within_capability, amount_fine, amounts_fine, reference_found, references_found, rows_fine, refusal, limits, DecidedBy}
use Rattle.limits.proofs.LimitLaws.{refused_decided}
use Rattle.casefile.specs.File.{headed, file_in}
use Rattle.worked_files.specs.Files.{file_of, unit_bytes, reference_bytes, entry_bytes, event_bytes, units, withheld, listing}

-- accepted: the empty case, the listing's case, and one with every section and a correction; then the table's examples in number order, and four easy to get wrong
pub record Examples : Type 0 where
  pub empty_case : refusal (file_of [] [] [] []) [] 0 ≡ 0
  pub listing_case : refusal listing [] 128 ≡ 0
  pub bids_case : refusal (file_of units (reference_bytes 12 0 2000) (entry_bytes 1 3 1 38 7000) (event_bytes 4 0 12 44 0 8000 2500 3000)) (reference_bytes 12 0 2100) 128 ≡ 0
  pub length_broken : refusal (replicate 35 0) [] 0 ≡ 1
  pub version_broken : refusal (headed 9 4 36 0 0 0 0 []) [] 0 ≡ 2
  pub count_broken : refusal (headed 1 3 36 0 0 0 0 []) [] 0 ≡ 3
  pub pairs_broken : refusal (headed 1 4 40 0 0 0 0 []) [] 0 ≡ 4
  pub size_broken : refusal (file_of (replicate 25 0) [] [] []) [] 0 ≡ 5
  pub unit_broken : refusal (file_of (unit_bytes 12 1 2 5000) [] [] []) [] 0 ≡ 6
  pub reference_broken : refusal (file_of units (reference_bytes 12 9 0) [] []) [] 0 ≡ 7
  pub correction_broken : refusal (file_of units [] [] []) (replicate 7 0) 0 ≡ 8
  pub past_broken : refusal (file_of units [] (entry_bytes 1 2 0 44 8000) []) [] 0 ≡ 9
  pub event_broken : refusal (file_of units [] [] (withheld 2 12 501)) [] 128 ≡ 10
  pub order_broken : refusal (file_of units [] [] (withheld 0 12 501 ++ withheld 0 12 501)) [] 256 ≡ 11
  pub unlisted : refusal (file_of units [] [] (withheld 0 99 501)) [] 128 ≡ 12
  pub above_capability : refusal (file_of units [] [] (withheld 0 12 5001)) [] 128 ≡ 13
  pub no_references_is : refusal (file_of units [] [] (event_bytes 4 0 12 44 0 8000 2500 3000)) [] 128 ≡ 14
  pub rows_short : refusal listing [] 127 ≡ 15
  pub wrapped_pairs : refusal (headed 1 4 36 4294967260 36 0 0 []) [] 0 ≡ 4
  pub largest_amount : refusal (file_of units [] [] (withheld 0 12 4294967295)) [] 128 ≡ 13
  pub correction_first : refusal (file_of units [] (entry_bytes 1 2 0 44 8000) []) (replicate 7 0) 0 ≡ 8
  pub reading_first : refusal (file_of units [] [] (withheld 0 12 501 ++ withheld 0 12 501 ++ withheld 2 12 501)) [] 384 ≡ 10

pub examples : Examples
unfolding headed file_in file_of unit_bytes reference_bytes entry_bytes event_bytes units withheld listing any_to all_to last_to value_at bytes_of positive_part negative_part within first_widths widths_of format_in offset_of length_of section_of record_at units_in references_in violation_in past_in cells_from cells_in events_in amounts_in is_unit is_listed place_of is_reference has_reference correct_references length_fine version_fine sections_fine pairs_fine size_fine sizes_fine record_numbers_fine unit_numbers_fine reference_numbers_fine event_numbers_fine numbers_fine rises unit_fields_fine unit_spare_fine reference_spare_fine entry_spare_fine unit_fine units_fine reference_fields_fine reference_key reference_fine references_fine correction_fine violation_fine entry_fine past_fine mask_fine quantities_fine fields_fine reference_in_range bid_in_range cell_fine hour_fine event_fine events_fine month_length month_start month_from month_of period_of days_fine periods_fine event_key order_fine event_listed events_listed within_capability amount_fine amounts_fine reads_correct reference_found references_found rows_fine refusal
examples =
    record {
      empty_case = refl;
      listing_case = refl;
      bids_case = refl;
      length_broken = refl;
      version_broken = refl;
      count_broken = refl;
      pairs_broken = refl;
      size_broken = refl;
      unit_broken = refl;
      reference_broken = refl;
      correction_broken = refl;
      past_broken = refl;
      event_broken = refl;
      order_broken = refl;
      unlisted = refl;
      above_capability = refl;
      no_references_is = refl;
      rows_short = refl;
      wrapped_pairs = refl;
      largest_amount = refl;
      correction_first = refl;
      reading_first = refl;
    }

-- 15 decides for the listing's case with a rows buffer of 127 bytes: every limit before it is met
pub rows_short_decided : DecidedBy (limits listing [] 127) 15
rows_short_decided = subst (DecidedBy (limits listing [] 127)) examples.rows_short (refused_decided listing [] 127 not_accepted)
  where
    not_accepted : refusal listing [] 127 ≡ 0 → ⊥
    not_accepted h = let z : ◌≡◌ {A = ℕ} 15 0 = sym examples.rows_short ∙ h in omega arith
