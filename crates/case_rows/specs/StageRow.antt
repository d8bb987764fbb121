-- The bytes of a row from its figures, and the row of event i from what earlier stages found of it.
use Rattle.std.specs.Prelude.{ℕ, List, ◌++◌, get_or}
use Rattle.binary.specs.Bytes.{bytes_of}
use Rattle.binary.specs.Lists.{list_to, join_to}
use Rattle.casefile.specs.declared.layout.Format.{Format}
use Rattle.casefile.specs.Layout.{most_hours}
use Rattle.casefile.specs.Decode.{events_in}
use Rattle.sanctions.specs.declared.sanction.Sanction.{Sanction}
use Rattle.default_bids.specs.StageFigures.{mitigated_by, bid_by, make_up_by}
use Rattle.case_rows.specs.declared.rows.Row.{Row}

-- the bid of hour h
unfoldable pub word_of : (bids : List ℕ) → ℕ → List ℕ
word_of bids h = bytes_of 4 (get_or bids h 0)

unfoldable pub words_of : (bids : List ℕ) → List ℕ
words_of bids = join_to most_hours (word_of bids)

unfoldable pub written_row : Row → List ℕ
written_row r =
    bytes_of 4 r.flags
    ++ (bytes_of 4 r.mitigated
    ++ (bytes_of 8 r.penalty
    ++ (bytes_of 8 r.make_up
    ++ (bytes_of 1 r.multiplier
    ++ (bytes_of 1 0
    ++ (bytes_of 2 r.n3
    ++ (bytes_of 2 r.n2
    ++ (bytes_of 2 0
    ++ words_of r.bids))))))))

-- the row of event i from its unit's place, r, c, its flag mask and its sanction
unfoldable pub row_by : Format → (units events : List ℕ) (place r c flags : ℕ) → Sanction → ℕ → Row
row_by format units events place r c flags s i =
    record {
      flags = flags;
      mitigated = mitigated_by (events_in format events) i flags;
      penalty = s.penalty;
      make_up = make_up_by format events i r c (mitigated_by (events_in format events) i flags);
      multiplier = s.multiplier;
      n3 = s.n3;
      n2 = s.n2;
      bids = list_to most_hours (bid_by format units events place r c (mitigated_by (events_in format events) i flags) i);
    }

-- the same from the tables
unfoldable pub table_row : Format → (units events places levels corrects masks : List ℕ) → Sanction → ℕ → Row
table_row format units events places levels corrects masks s i =
    row_by format units events (get_or places i 0) (get_or levels i 0) (get_or corrects i 0) (get_or masks i 0) s i
