-- The line of an event and its row (docs/RULES.md, R): fields in decimal, single spaces, a line feed at the end.
use Rattle.std.specs.Prelude.{ℕ, List, ◌++◌}
use Rattle.binary.specs.Bytes.{byte_at, u32_at, u64_at}
use Rattle.binary.specs.Lists.{join_to}
use Rattle.casefile.specs.declared.layout.Format.{Format}
use Rattle.casefile.specs.Layout.{row_width}
use Rattle.casefile.specs.Case.{Events}
use Rattle.casefile.specs.Decode.{record_at}
use Rattle.report.specs.Decimal.{field}

abbrev pub space : ℕ
space = 32

abbrev pub line_feed : ℕ
line_feed = 10

-- day, kind, unit, market, component
unfoldable pub event_fields : Events → ℕ → List ℕ
event_fields e i =
    field (e.day i) space ++ field (e.kind i) space ++ field (e.unit i) space ++ field (e.market i) space
    ++ field (e.component i) space

-- flags, mitigated, multiplier, penalty, make-up
unfoldable pub row_fields : (row : List ℕ) → List ℕ
row_fields r =
    field (u32_at r 0) space ++ field (u32_at r 4) space ++ field (byte_at r 24) space ++ field (u64_at r 8) space
    ++ field (u64_at r 16) line_feed

unfoldable pub listing_line : Format → Events → (rows : List ℕ) → ℕ → List ℕ
listing_line format e rows i = event_fields e i ++ row_fields (record_at (row_width format) rows i)

-- the lines of the first n events
unfoldable pub lines_to : Format → (n : ℕ) → Events → (rows : List ℕ) → List ℕ
lines_to format n e rows = join_to n (listing_line format e rows)
