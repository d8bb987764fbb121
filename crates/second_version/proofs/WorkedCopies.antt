-- The promise of the copy on the listing's case, and on a case of bids with a correction.
use mathlib.Core.List.{[], ◌∷◌, ◌++◌}
use mathlib.Core.Path.{◌≡◌, refl, ◌∙◌}
use lib.ListN.{replicate}
use Rattle.binary.specs.Bounded.{any_to, all_to, last_to}
use Rattle.binary.specs.Lists.{list_to, join_to}
use Rattle.binary.specs.Bytes.{value_at, bytes_of}
use Rattle.binary.specs.Word.{positive_part, negative_part, within}
use Rattle.calendar.specs.Months.{month_length, month_start, month_from, month_of}
use Rattle.calendar.specs.Periods.{period_of}
use Rattle.tariff.specs.Ranges.{reference_in_range, bid_in_range}
use Rattle.casefile.specs.Layout.{second_version, first_widths, second_widths, widths_of}
use Rattle.casefile.specs.Decode.{format_in, offset_of, length_of, section_of, record_at, units_in, references_in, violation_in, past_in, cells_from, cells_in, events_in, amounts_in, old_number, unit_spare_fine, reference_spare_fine, entry_spare_fine}
use Rattle.casefile.specs.Lookup.{is_unit, is_listed, place_of, is_reference, reference_key, has_reference, correct_references, reads_correct}
use Rattle.limits.specs.Refusal.{length_fine, version_fine, sections_fine, pairs_fine, size_fine, sizes_fine, number_fine, record_numbers_fine, unit_numbers_fine, reference_numbers_fine, event_numbers_fine, numbers_fine, rises, unit_fields_fine, unit_fine, units_fine, reference_fields_fine, reference_fine, references_fine, correction_fine, violation_fine, entry_fine, past_fine, mask_fine, quantities_fine, fields_fine, cell_fine, hour_fine, event_fine, events_fine, days_fine, periods_fine, event_key, order_fine, event_listed, events_listed, within_capability, amount_fine, amounts_fine, reference_found, references_found, rows_fine, refusal}
use Rattle.casefile.specs.File.{headed, file_in}
use Rattle.worked_files.specs.Files.{file_of, unit_bytes, reference_bytes, entry_bytes, event_bytes, units, withheld, listing}
use Rattle.settlement.specs.Settled.{settled}
use Rattle.report.specs.Listing.{listing_of}
use Rattle.worked_files.specs.Cases.{tight_unit, cell_bytes, event_of, row_bytes, no_bids, bid_references, bid_events, bids, bid_rows}
use Rattle.worked_cases.proofs.Settlements as worked
use Rattle.second_version.specs.SecondVersion.{copy_byte, copy_record, copy_records, copy_units, copy_references, copy_events, copy_of, BothAccepted}
use Rattle.second_version.proofs.SameSettlement.{same_settlement, same_listing}

-- the copies of the listing's case and of a correction, byte for byte; and both cases are accepted, as their copies are
pub record Examples : Type 0 where
  pub listing_copied : copy_of listing
      ≡ file_in second_version (unit_bytes 0 1 0 5000 ++ bytes_of 4 12 ++ unit_bytes 0 1 0 15000 ++ bytes_of 4 13) [] [] (withheld 0 0 501 ++ bytes_of 4 12)
  pub correction_copied : copy_references (reference_bytes 20 0 2500) ≡ reference_bytes 0 0 2500 ++ bytes_of 4 20
  pub listing_accepted : BothAccepted listing [] 129
  pub bids_accepted : BothAccepted bids (reference_bytes 20 0 2500) 641

pub examples : Examples
unfolding list_to join_to copy_byte copy_record copy_records copy_units copy_references copy_events copy_of tight_unit bid_references bid_events bids cell_bytes event_of file_of units listing headed file_in unit_bytes reference_bytes entry_bytes event_bytes withheld any_to all_to last_to value_at bytes_of positive_part negative_part within first_widths widths_of format_in offset_of length_of section_of record_at units_in references_in violation_in past_in cells_from cells_in events_in amounts_in is_unit is_listed place_of is_reference has_reference correct_references length_fine version_fine sections_fine pairs_fine size_fine sizes_fine record_numbers_fine unit_numbers_fine reference_numbers_fine event_numbers_fine numbers_fine rises unit_fields_fine unit_spare_fine reference_spare_fine entry_spare_fine unit_fine units_fine reference_fields_fine reference_key reference_fine references_fine correction_fine violation_fine entry_fine past_fine mask_fine quantities_fine fields_fine reference_in_range bid_in_range cell_fine hour_fine event_fine events_fine month_length month_start month_from month_of period_of days_fine periods_fine event_key order_fine event_listed events_listed within_capability amount_fine amounts_fine reads_correct reference_found references_found rows_fine refusal second_widths number_fine old_number
examples =
    record {
      listing_copied = refl;
      correction_copied = refl;
      listing_accepted = record { version = refl; own = refl; copied = refl };
      bids_accepted = record { version = refl; own = refl; copied = refl };
    }

-- what the copies settle into
pub listing_settled : settled (copy_of listing) (copy_references []) (replicate 129 9)
    ≡ record {
      answer = record { number = 0; row_count = 1; penalties = 200400; make_ups = 0 };
      rows = row_bytes 1 0 200400 0 2 1 1 no_bids ++ (9 ∷ []);
    }
listing_settled = same_settlement listing [] (replicate 129 9) examples.listing_accepted ∙ (worked.examples).listing_case

pub bids_settled : settled (copy_of bids) (copy_references (reference_bytes 20 0 2500)) (replicate 641 9)
    ≡ record {
      answer = record { number = 0; row_count = 5; penalties = 0; make_ups = 150000 };
      rows = bid_rows ++ (9 ∷ []);
    }
bids_settled = same_settlement bids (reference_bytes 20 0 2500) (replicate 641 9) examples.bids_accepted ∙ (worked.examples).bids_case

pub listing_listed : listing_of (copy_of listing) (replicate 129 9) ≡ listing_of listing (replicate 129 9)
listing_listed = (same_listing listing (replicate 129 9) examples.listing_accepted).text
