-- A signed number of some bits, kept as its two's complement word w. Its value is `positive_part` less `negative_part`, one of
-- which is 0; where the rules cut a number at 0, they mean the positive part.
use Rattle.std.specs.Prelude.{ℕ, ◌-◌, ◌^◌, Bool, cond, ◌&&◌, ltb, leb}

-- the value, or 0 if negative
unfoldable pub positive_part : (bits w : ℕ) → ℕ
positive_part bits w = cond (ltb w (2 ^ (bits - 1))) w 0

-- minus the value, or 0 if the value is not negative
unfoldable pub negative_part : (bits w : ℕ) → ℕ
negative_part bits w = cond (ltb w (2 ^ (bits - 1))) 0 (2 ^ bits - w)

-- the value is from -n to n
unfoldable pub within : (bits n w : ℕ) → Bool
within bits n w = leb (positive_part bits w) n && leb (negative_part bits w) n
