-- Sums, counts, tests and masks over the numbers below a bound. Each is a recursion on the bound, so that a loop's
-- invariant is the same function at the loop's counter.
use Rattle.std.specs.Prelude.{ℕ, zero, suc, ◌+◌, ◌/◌, ◌%◌, ◌^◌, Bool, true, false, cond, ◌&&◌, ◌||◌, ltb, eqb}

-- f 0 + .. + f (n - 1)
unfoldable pub sum_to : ℕ → (ℕ → ℕ) → ℕ
sum_to zero f = 0
sum_to (suc n) f = sum_to n f + f n

-- how many i below n pass p
unfoldable pub count_to : ℕ → (ℕ → Bool) → ℕ
count_to zero p = 0
count_to (suc n) p = count_to n p + cond (p n) 1 0

-- some i below n passes p
unfoldable pub any_to : ℕ → (ℕ → Bool) → Bool
any_to zero p = false
any_to (suc n) p = any_to n p || p n

-- every i below n passes p
unfoldable pub all_to : ℕ → (ℕ → Bool) → Bool
all_to zero p = true
all_to (suc n) p = all_to n p && p n

-- the first i below n that passes p, or n where none does
unfoldable pub first_to : ℕ → (ℕ → Bool) → ℕ
first_to zero p = 0
first_to (suc n) p = cond (ltb (first_to n p) n || p n) (first_to n p) (suc n)

-- the last i below n that passes p, or 0 where none does
unfoldable pub last_to : ℕ → (ℕ → Bool) → ℕ
last_to zero p = 0
last_to (suc n) p = cond (p n) n (last_to n p)

-- the number whose bit i is set where i is below n and passes p
unfoldable pub mask_to : ℕ → (ℕ → Bool) → ℕ
mask_to zero p = 0
mask_to (suc n) p = mask_to n p + cond (p n) (2 ^ n) 0

-- bit i of a number is set
unfoldable pub bit_of : ℕ → ℕ → Bool
bit_of mask i = eqb (mask / 2 ^ i % 2) 1
