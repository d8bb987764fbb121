-- Little-endian numbers in a list of bytes (docs/RULES.md, B). Past the list's end every byte is 0.
use Rattle.std.specs.Prelude.{ℕ, zero, suc, ◌+◌, ◌*◌, ◌/◌, ◌%◌, ◌≡◌, List, [], ◌∷◌, get_or}
use Rattle.std.proofs.Common.{arith}

abbrev pub byte_at : List ℕ → ℕ → ℕ
byte_at s p = get_or s p 0

-- the number of w bytes at p
unfoldable pub value_at : (w : ℕ) → List ℕ → ℕ → ℕ
value_at zero s p = 0
value_at (suc w) s p = byte_at s p + 256 * value_at w s (p + 1)

-- the byte is the number of one byte
pub byte_value : (s : List ℕ) (p : ℕ) → byte_at s p ≡ value_at 1 s p
unfolding value_at
byte_value s p = omega arith

abbrev pub u16_at : List ℕ → ℕ → ℕ
u16_at s p = value_at 2 s p

abbrev pub u32_at : List ℕ → ℕ → ℕ
u32_at s p = value_at 4 s p

abbrev pub u64_at : List ℕ → ℕ → ℕ
u64_at s p = value_at 8 s p

-- the w bytes of v, the lowest first
unfoldable pub bytes_of : (w v : ℕ) → List ℕ
bytes_of zero v = []
bytes_of (suc w) v = v % 256 ∷ bytes_of w (v / 256)
