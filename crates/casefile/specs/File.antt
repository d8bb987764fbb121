-- A case file put together from its sections (docs/RULES.md, B).
use Rattle.std.specs.Prelude.{ℕ, ◌+◌, List, ◌++◌, length}
use Rattle.binary.specs.Bytes.{bytes_of}
use Rattle.casefile.specs.Layout.{section_count, header_width}

-- a file with this version, section count and first offset, and these lengths for its pairs
unfoldable pub headed : (version sections first units references past events : ℕ) → List ℕ → List ℕ
headed v n o u r p e body =
    bytes_of 2 v ++ bytes_of 2 n ++ bytes_of 4 o ++ bytes_of 4 u ++ bytes_of 4 (o + u) ++ bytes_of 4 r ++ bytes_of 4 (o + u + r) ++ bytes_of 4 p
    ++ bytes_of 4 (o + u + r + p) ++ bytes_of 4 e ++ body

-- the file of that version with these sections
unfoldable pub file_in : (version : ℕ) (units references past events : List ℕ) → List ℕ
file_in v u r p e = headed v section_count header_width (length u) (length r) (length p) (length e) (u ++ r ++ p ++ e)
