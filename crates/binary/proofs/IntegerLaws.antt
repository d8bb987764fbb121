-- Integers as differences of two sums: x less y is `sub_ℕ x y`.
use Prim.Native.Nat.{ℕ, zero, suc, ◌+◌, ◌-◌, ◌*◌, ◌^◌, ◌≤◌, ◌<◌, zero-le}
use mathlib.Core.Bool.{Bool, true, false, cond}
use mathlib.Core.Path.{◌≡◌, refl, sym, ◌∙◌, ap, ap₂}
use native.Mathlib.Nat.{mul-add, mul-zero}
use native.Mathlib.Omega.{arith}
use lib.Dec.{ltb}
use lib.IntN.{ℤ, pos, negsuc, neg_ℤ, sub_ℕ, ◌+ℤ◌, ◌-ℤ◌, ◌*ℤ◌, +ℤ_assoc, +ℤ_comm, neg_ℤ-+ℤ}
use borrow.Author.Tests.{ltb-true, ltb-false, lt-ltb, le-ltb}
use Rattle.binary.specs.Bounded.{sum_to}
use Rattle.std.specs.Prelude.{◌≤ℤ◌}
use Rattle.binary.specs.Integers.{signed, word, sum_ℤ_to}
use Rattle.binary.specs.Word.{positive_part, negative_part}
use Rattle.binary.proofs.WordLaws.{double}

-- ---- one difference

less : (x y : ℕ) → sub_ℕ x y ≡ pos x -ℤ pos y
less x zero = rw (le-ltb x 0 zero-le) (ap pos (omega arith))
less x (suc y) = refl

less_above : (y d : ℕ) → sub_ℕ (y + d) y ≡ pos d
less_above y d = rw (le-ltb (y + d) y (omega arith)) (ap pos (omega arith))

less_below : (x d : ℕ) → sub_ℕ x (x + d) ≡ neg_ℤ (pos d)
less_below x zero = rw (le-ltb x (x + 0) (omega arith)) (ap pos (omega arith))
less_below x (suc d) = rw (lt-ltb x (x + suc d) (omega arith)) (ap negsuc (omega arith))

-- where it is not negative, y is at most x
pub at_least : (x y : ℕ) → pos 0 ≤ℤ sub_ℕ x y → y ≤ x
at_least x y h = go (ltb x y) refl h
  where
    go : (b : Bool) → ltb x y ≡ b → pos 0 ≤ℤ cond b (negsuc (y - suc x)) (pos (x - y)) → y ≤ x
    go true e h = absurd h.le
    go false e h = ltb-false x y e

-- ---- sums and products of differences

four : (a b c d : ℤ) → (a +ℤ b) +ℤ (c +ℤ d) ≡ (a +ℤ c) +ℤ (b +ℤ d)
four a b c d =
    +ℤ_assoc a b (c +ℤ d)
    ∙ ap (λ (x : ℤ). a +ℤ x) (sym (+ℤ_assoc b c d) ∙ ap (λ (x : ℤ). x +ℤ d) (+ℤ_comm b c) ∙ +ℤ_assoc c b d)
    ∙ sym (+ℤ_assoc a c (b +ℤ d))

pub less_plus : (x y v w : ℕ) → sub_ℕ x y +ℤ sub_ℕ v w ≡ sub_ℕ (x + v) (y + w)
less_plus x y v w =
    ap₂ ◌+ℤ◌ (less x y) (less v w)
    ∙ four (pos x) (neg_ℤ (pos y)) (pos v) (neg_ℤ (pos w))
    ∙ ap (λ (z : ℤ). pos (x + v) +ℤ z) (sym (neg_ℤ-+ℤ (pos y) (pos w)))
    ∙ sym (less (x + v) (y + w))

pub less_times : (k x y : ℕ) → pos k *ℤ sub_ℕ x y ≡ sub_ℕ (k * x) (k * y)
less_times k x y = go (ltb x y) refl
  where
    above : (d : ℕ) → pos k *ℤ sub_ℕ (y + d) y ≡ sub_ℕ (k * (y + d)) (k * y)
    above d = rw (less_above y d, mul-add k y d, less_above (k * y) (k * d)) refl

    below : (d : ℕ) → pos k *ℤ neg_ℤ (pos d) ≡ neg_ℤ (pos (k * d))
    below zero = rw (mul-zero k)
    below (suc d) = refl

    beneath : (d : ℕ) → pos k *ℤ sub_ℕ x (x + d) ≡ sub_ℕ (k * x) (k * (x + d))
    beneath d = rw (less_below x d, mul-add k x d, less_below (k * x) (k * d)) (below d)

    go : (b : Bool) → ltb x y ≡ b → pos k *ℤ sub_ℕ x y ≡ sub_ℕ (k * x) (k * y)
    go true e = let l = ltb-true x y e in let q : x + (y - x) ≡ y = omega arith in rw q at (beneath (y - x))
    go false e = let l = ltb-false x y e in let q : y + (x - y) ≡ x = omega arith in rw q at (above (x - y))

pub less_where : (b : Bool) (x y : ℕ) → cond b (sub_ℕ x y) (pos 0) ≡ sub_ℕ (cond b x 0) (cond b y 0)
less_where true x y = refl
less_where false x y = refl

pub less_sum : (n : ℕ) (f : ℕ → ℤ) (x y : ℕ → ℕ) → ((i : ℕ) → f i ≡ sub_ℕ (x i) (y i))
    → sum_ℤ_to n f ≡ sub_ℕ (sum_to n x) (sum_to n y)
unfolding sum_ℤ_to sum_to
less_sum zero f x y e = refl
less_sum (suc n) f x y e = ap₂ ◌+ℤ◌ (less_sum n f x y e) (e n) ∙ less_plus (sum_to n x) (sum_to n y) (x n) (y n)

-- ---- words of differences

-- a difference by its two parts
pub less_parts : (x y : ℕ) → sub_ℕ (x - y) (y - x) ≡ sub_ℕ x y
less_parts x y = go (ltb x y) refl
  where
    go : (t : Bool) → ltb x y ≡ t
        → cond (ltb (x - y) (y - x)) (negsuc (y - x - suc (x - y))) (pos (x - y - (y - x))) ≡ cond t (negsuc (y - suc x)) (pos (x - y))
    go true t = let l = ltb-true x y t in rw (lt-ltb (x - y) (y - x) (omega arith)) (ap negsuc (omega arith))
    go false t = let l = ltb-false x y t in rw (le-ltb (x - y) (y - x) (omega arith)) (ap pos (omega arith))

-- the parts of its word
pub word_parts : (bits x y : ℕ) → 0 < bits → x < 2 ^ (bits - 1) → y < 2 ^ (bits - 1)
    → (positive_part bits (word bits (sub_ℕ x y)) ≡ x - y) × (negative_part bits (word bits (sub_ℕ x y)) ≡ y - x)
unfolding word positive_part negative_part
word_parts bits x y h lx ly = go (ltb x y) refl
  where
    go : (t : Bool) → ltb x y ≡ t
        → (positive_part bits (word bits (cond t (negsuc (y - suc x)) (pos (x - y)))) ≡ x - y)
        × (negative_part bits (word bits (cond t (negsuc (y - suc x)) (pos (x - y)))) ≡ y - x)
    go true t =
        let l = ltb-true x y t in
        let z = le-ltb (2 ^ bits - suc (y - suc x)) (2 ^ (bits - 1)) (omega (arith, double bits h)) in
        (rw z (omega arith), rw z (omega (arith, double bits h)))
    go false t =
        let l = ltb-false x y t in
        let z = lt-ltb (x - y) (2 ^ (bits - 1)) (omega arith) in
        (rw z refl, rw z (omega arith))

-- and its value
pub signed_of_word : (bits x y : ℕ) → 0 < bits → x < 2 ^ (bits - 1) → y < 2 ^ (bits - 1) → signed bits (word bits (sub_ℕ x y)) ≡ sub_ℕ x y
unfolding signed
signed_of_word bits x y h lx ly = let p = word_parts bits x y h lx ly in rw (p.0, p.1) (less_parts x y)
