-- The promise of the copy (docs/RULES.md, A16): wherever a version 1 file and its version 2 copy are both accepted, they settle to the
-- same answer and the same bytes of the rows buffer, and are listed in the same text.
use Prim.Native.Nat.{ℕ, ◌*◌}
use mathlib.Core.List.{List, [], ◌++◌}
use mathlib.Core.Path.{◌≡◌, refl, subst}
use lib.ListN.{length, drop}
use Rattle.binary.specs.Lists.{join_to}
use Rattle.casefile.specs.Layout.{first_widths, row_width}
use Rattle.sanctions.specs.Penalties.{total_penalty}
use Rattle.default_bids.specs.Mitigation.{total_make_up}
use Rattle.settlement.specs.Row.{row_of, rows_of}
use Rattle.settlement.specs.Settled.{accepted, answer_of, rows_after, settled}
use Rattle.report.specs.Line.{listing_line, lines_to}
use Rattle.report.specs.Listing.{text_of, listing_of, listed_length, listed_out, listed_rows}
use Rattle.second_version.specs.SecondVersion.{copy_records, copy_references, copy_of, BothAccepted, SettlesAlike, ListsAlike}
use Rattle.second_version.proofs.RecordCopies.{first}
use Rattle.second_version.proofs.SameCase.{same_case, same_correct}

module _ (f k rows : List ℕ) (both : BothAccepted f k (length rows)) where
  answer_same : answer_of (copy_of f) (copy_references k) (length rows) ≡ answer_of f k (length rows)
  unfolding answer_of accepted
  answer_same =
      rw (both.copied, both.own)
      (λ x.
      record {
        number = 0;
        row_count = (same_case f k (length rows) both x).events.count;
        penalties = total_penalty (same_case f k (length rows) both x);
        make_ups = total_make_up (same_case f k (length rows) both x) (same_correct f k (length rows) both x);
      })

  rows_same : rows_after (copy_of f) (copy_references k) rows ≡ rows_after f k rows
  unfolding rows_after rows_of
  rows_same =
      rw (both.copied, both.own)
      (λ x.
      join_to (same_case f k (length rows) both x).events.count
      (row_of (same_case f k (length rows) both x) (same_correct f k (length rows) both x))
      ++ drop (row_width first * (same_case f k (length rows) both x).events.count) rows)

pub same_settlement : (f k rows : List ℕ) → SettlesAlike f k rows
unfolding settled
same_settlement f k rows both = λ x. record { answer = answer_same f k rows both x; rows = rows_same f k rows both x }

-- ---- the listing

-- no correction is copied to none
none_copied : copy_references [] ≡ []
unfolding copy_references copy_records first_widths join_to
none_copied = refl

module _ (f rows : List ℕ) (both : BothAccepted f [] (length rows)) where
  rows_none : rows_after (copy_of f) [] rows ≡ rows_after f [] rows
  rows_none = subst (λ (k : List ℕ). rows_after (copy_of f) k rows ≡ rows_after f [] rows) none_copied (rows_same f [] rows both)

  answer_none : answer_of (copy_of f) [] (length rows) ≡ answer_of f [] (length rows)
  answer_none =
      subst (λ (k : List ℕ). answer_of (copy_of f) k (length rows) ≡ answer_of f [] (length rows)) none_copied (answer_same f [] rows both)

  text_same : listing_of (copy_of f) rows ≡ listing_of f rows
  unfolding listing_of text_of lines_to listing_line
  text_same = rw (answer_none, rows_none, same_case f [] (length rows) both)

pub same_listing : (f rows : List ℕ) → ListsAlike f rows
unfolding listed_length listed_out listed_rows
same_listing f rows both =
    record {
      text = text_same f rows both;
      answer = λ out. rw (text_same f rows both);
      out_left = λ out. rw (text_same f rows both);
      rows_left = λ out. rw (rows_none f rows both);
    }
