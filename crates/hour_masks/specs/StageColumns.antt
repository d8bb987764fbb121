-- The hours of a column that are past a line.
use Rattle.std.specs.Prelude.{ℕ, Bool, List, ltb, get_or}
use Rattle.binary.specs.Word.{positive_part}

unfoldable pub over : (column : List ℕ) (line h : ℕ) → Bool
over column line h = ltb line (get_or column h 0)

-- of a signed word
unfoldable pub above : (column : List ℕ) (line h : ℕ) → Bool
above column line h = ltb line (positive_part 32 (get_or column h 0))

unfoldable pub below : (column : List ℕ) (line h : ℕ) → Bool
below column line h = ltb (positive_part 32 (get_or column h 0)) line
