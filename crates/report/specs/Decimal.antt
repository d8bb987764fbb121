-- A number as decimal text, in ASCII.
use Rattle.std.specs.Prelude.{ℕ, zero, suc, ◌+◌, ◌/◌, ◌%◌, ◌≤◌, Bool, true, false, cond, List, [], ◌∷◌, ◌++◌, ◌≡◌, refl, ltb, length}
use Rattle.std.proofs.Common.{arith, add-one, length-append}

-- the decimal digits of n, at most k of them
unfoldable pub decimal_to : ℕ → ℕ → List ℕ
decimal_to zero n = []
decimal_to (suc k) n = cond (ltb n 10) ((48 + n) ∷ []) (decimal_to k (n / 10) ++ ((48 + n % 10) ∷ []))

-- the decimal digits of n, which is below 10^20
abbrev pub decimal : ℕ → List ℕ
decimal n = decimal_to 20 n

-- a number and the byte after it
unfoldable pub field : (n end : ℕ) → List ℕ
field n end = decimal n ++ (end ∷ [])

pub decimal_to_none : (n : ℕ) → decimal_to 0 n ≡ []
unfolding decimal_to
decimal_to_none n = refl

pub decimal_to_one : (k n : ℕ) → ltb n 10 ≡ true → decimal_to (k + 1) n ≡ (48 + n) ∷ []
unfolding decimal_to
decimal_to_one k n h = rw (add-one, h)

pub decimal_to_more : (k n : ℕ) → ltb n 10 ≡ false → decimal_to (k + 1) n ≡ decimal_to k (n / 10) ++ ((48 + n % 10) ∷ [])
unfolding decimal_to
decimal_to_more k n h = rw (add-one, h)

length_digits : (k n : ℕ) (t : Bool) (l : List ℕ) → length l ≤ k → length (cond t ((48 + n) ∷ []) (l ++ ((48 + n % 10) ∷ []))) ≤ suc k
length_digits k n true l h = omega arith
length_digits k n false l h = simp length-append (omega arith)

pub length_decimal_to : (k n : ℕ) → length (decimal_to k n) ≤ k
unfolding decimal_to
length_decimal_to zero n = omega arith
length_decimal_to (suc k) n = length_digits k n (ltb n 10) (decimal_to k (n / 10)) (length_decimal_to k (n / 10))
