-- Signed words as integers, the library's ℤ, and their sums below a bound.
use Rattle.std.specs.Prelude.{ℕ, zero, suc, ◌-◌, ◌^◌, ℤ, pos, negsuc, ◌+ℤ◌}
use Rattle.std.proofs.Math.IntN.{sub_ℕ}
use Rattle.binary.specs.Word.{positive_part, negative_part}

-- the value of a signed word of that many bits
unfoldable pub signed : (bits w : ℕ) → ℤ
signed bits w = sub_ℕ (positive_part bits w) (negative_part bits w)

-- the signed word of that many bits whose value is x, for an x that has one
unfoldable pub word : (bits : ℕ) → ℤ → ℕ
word bits (pos n) = n
word bits (negsuc n) = 2 ^ bits - suc n

-- f 0 + .. + f (n - 1)
unfoldable pub sum_ℤ_to : ℕ → (ℕ → ℤ) → ℤ
sum_ℤ_to zero f = pos 0
sum_ℤ_to (suc n) f = sum_ℤ_to n f +ℤ f n
