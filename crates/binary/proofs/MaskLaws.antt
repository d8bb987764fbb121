-- Masks: a mask is below 2 ^ n, bit i of the mask of p is p i and a mask is 0 where no i passes.
use Prim.Native.Nat.{ℕ, zero, suc, ◌+◌, ◌-◌, ◌*◌, ◌/◌, ◌%◌, ◌^◌, ◌≤◌, ◌<◌, zero-le}
use mathlib.Core.Bool.{Bool, true, false, cond, ◌&&◌, ◌||◌}
use mathlib.Core.Path.{◌≡◌, refl, sym, ap, ap₂, subst, ◌∙◌}
use mathlib.Core.Logic.{⊎_elim}
use native.Mathlib.Numerals.{add-one}
use native.Mathlib.Omega.{arith}
use native.Mathlib.Nat.{add-zero, mul_comm, mod-lt, div-add-mod, div-eq_of_lt, add-div_right, add-mul-div_left, add-mul-mod_self_left, mul-le-mul_left, pow-suc, le_refl, lt_of_lt_of_le, eq-or-lt_of_le, le_of_suc-le-suc, not-suc-le-zero}
use lib.Bits.{bit_and, and_shr, and_mod}
use lib.Dec.{ltb, eqb, lit<}
use lib.Pow.{pow_pos, pow-add, pow_mono}
use borrow.Author.Tests.{lt-ltb}
use Rattle.binary.specs.Bounded.{any_to, mask_to, bit_of}

pub mask_none : (p : ℕ → Bool) → 0 ≡ mask_to 0 p
unfolding mask_to
mask_none p = refl

pub mask_more : (n : ℕ) (p : ℕ → Bool) → mask_to (n + 1) p ≡ mask_to n p + cond (p n) (2 ^ n) 0
unfolding mask_to
mask_more n p = rw add-one

pub mask_same : (n : ℕ) (p q : ℕ → Bool) → ((i : ℕ) → i < n → p i ≡ q i) → mask_to n p ≡ mask_to n q
unfolding mask_to
mask_same zero p q h = refl
mask_same (suc n) p q h =
    ap₂ (λ (m : ℕ) (t : Bool). m + cond t (2 ^ n) 0) (mask_same n p q (λ i l. h i (omega arith))) (h n (omega arith))

pub cond_le : (c : Bool) (x : ℕ) → cond c x 0 ≤ x
cond_le true x = le_refl x
cond_le false x = zero-le

pub mask_lt : (n : ℕ) (p : ℕ → Bool) → mask_to n p < 2 ^ n
unfolding mask_to
mask_lt zero p = lit< tt
mask_lt (suc n) p = omega (arith, mask_lt n p, cond_le (p n) (2 ^ n), pow-suc 2 n)

-- a bit past the width is not set
pub bit_past : (n mask i : ℕ) → mask < 2 ^ n → n ≤ i → bit_of mask i ≡ false
unfolding bit_of
bit_past n mask i m l = rw (div-eq_of_lt (lt_of_lt_of_le m (pow_mono {i = n} l)))

-- a multiple of 2 ^ (i + 1) does not touch bit i
below_kept : (m i k : ℕ) → (m + 2 ^ (i + suc k)) / 2 ^ i % 2 ≡ m / 2 ^ i % 2
below_kept m i k =
    let e : 2 ^ (i + suc k) ≡ 2 ^ i * (2 * 2 ^ k) = pow-add 2 i (suc k) ∙ ap (λ (x : ℕ). 2 ^ i * x) (pow-suc 2 k ∙ mul_comm (2 ^ k) 2) in
    rw (e, add-mul-div_left m (2 * 2 ^ k) (pow_pos i)) (add-mul-mod_self_left (m / 2 ^ i) 2 (2 ^ k))

top : (m n : ℕ) (b : Bool) → m < 2 ^ n → eqb ((m + cond b (2 ^ n) 0) / 2 ^ n % 2) 1 ≡ b
top m n true l = rw (add-div_right m (pow_pos n), div-eq_of_lt l)
top m n false l = rw (add-zero m, div-eq_of_lt l)

kept : (m i n : ℕ) (b : Bool) → i < n → eqb ((m + cond b (2 ^ n) 0) / 2 ^ i % 2) 1 ≡ eqb (m / 2 ^ i % 2) 1
kept m i n true l =
    let e : n ≡ i + suc (n - suc i) = omega arith in
    ap (λ (x : ℕ). eqb x 1) (subst (λ (j : ℕ). (m + 2 ^ j) / 2 ^ i % 2 ≡ m / 2 ^ i % 2) (sym e) (below_kept m i (n - suc i)))
kept m i n false l = rw (add-zero m)

pub bit_mask : (n i : ℕ) (p : ℕ → Bool) → i < n → bit_of (mask_to n p) i ≡ p i
unfolding mask_to bit_of
bit_mask zero i p l = absurd (not-suc-le-zero l)
bit_mask (suc n) i p l =
    ⊎_elim
    (λ q. subst (λ (k : ℕ). eqb ((mask_to n p + cond (p n) (2 ^ n) 0) / 2 ^ k % 2) 1 ≡ p k) (sym q) (top (mask_to n p) n (p n) (mask_lt n p)))
    (λ k. kept (mask_to n p) i n (p n) k ∙ bit_mask n i p k)
    (eq-or-lt_of_le (le_of_suc-le-suc l))

-- some bit is set where the mask is above 0
pub mask_any : (n : ℕ) (p : ℕ → Bool) → any_to n p ≡ ltb 0 (mask_to n p)
unfolding any_to mask_to
mask_any zero p = refl
mask_any (suc n) p = ap (λ (b : Bool). b || p n) (mask_any n p) ∙ go (mask_to n p) (p n)
  where
    go : (k : ℕ) (b : Bool) → (ltb 0 k || b) ≡ ltb 0 (k + cond b (2 ^ n) 0)
    go zero true = let w : 0 < 2 ^ n = pow_pos n in sym (lt-ltb 0 (0 + 2 ^ n) (omega arith))
    go zero false = refl
    go (suc k) b = rw (lt-ltb 0 (suc k) (omega arith)) (sym (lt-ltb 0 (suc k + cond b (2 ^ n) 0) (omega arith)))

mask_top : (n m low : ℕ) (b : Bool) → low < 2 ^ n → m ≡ low + cond b (2 ^ n) 0 → mask_to n (bit_of low) ≡ low → mask_to (suc n) (bit_of m) ≡ m
unfolding mask_to bit_of
mask_top n m low b small e rest =
    let bits : mask_to n (bit_of m) ≡ low =
    mask_same n (bit_of m) (bit_of low) (λ i k. ap (λ (x : ℕ). bit_of x i) e ∙ kept low i n b k) ∙ rest in
    let last : bit_of m n ≡ b = ap (λ (x : ℕ). bit_of x n) e ∙ top low n b small in
    ap₂ (λ (x : ℕ) (t : Bool). x + cond t (2 ^ n) 0) bits last ∙ sym e

-- a number is the mask of its bits
pub mask_bits : (n m : ℕ) → m < 2 ^ n → mask_to n (bit_of m) ≡ m
unfolding mask_to
mask_bits zero m l = omega arith
mask_bits (suc n) m l = go (m / 2 ^ n) refl (mask_bits n (m % 2 ^ n) small)
  where
    small : m % 2 ^ n < 2 ^ n
    small = mod-lt m (pow_pos n)

    go : (q : ℕ) → m / 2 ^ n ≡ q → mask_to n (bit_of (m % 2 ^ n)) ≡ m % 2 ^ n → mask_to (suc n) (bit_of m) ≡ m
    go zero e rest =
        let d : 2 ^ n * 0 + m % 2 ^ n ≡ m = rw e at (div-add-mod m (2 ^ n)) in
        mask_top n m (m % 2 ^ n) false small (omega arith) rest
    go (suc zero) e rest =
        let d : 2 ^ n * 1 + m % 2 ^ n ≡ m = rw e at (div-add-mod m (2 ^ n)) in
        mask_top n m (m % 2 ^ n) true small (omega arith) rest
    go (suc (suc q)) e rest =
        let d : 2 ^ n * suc (suc q) + m % 2 ^ n ≡ m = rw e at (div-add-mod m (2 ^ n)) in
        let more : 2 ^ n * 2 ≤ 2 ^ n * suc (suc q) = mul-le-mul_left (2 ^ n) (omega arith) in
        absurd (omega (arith, pow-suc 2 n))

-- a bit that both numbers have
pub bit_of_and : (a b i : ℕ) → bit_of (bit_and a b) i ≡ (bit_of a i && bit_of b i)
unfolding bit_of
bit_of_and a b i =
    rw (and_shr a b i, and_mod (a / 2 ^ i) (b / 2 ^ i) 1)
    (go (a / 2 ^ i % 2) (b / 2 ^ i % 2) (mod-lt (a / 2 ^ i) (lit< tt)) (mod-lt (b / 2 ^ i) (lit< tt)))
  where
    go : (x y : ℕ) → x < 2 → y < 2 → eqb (bit_and x y) 1 ≡ (eqb x 1 && eqb y 1)
    go zero y l k = refl
    go (suc zero) zero l k = refl
    go (suc zero) (suc zero) l k = refl
    go (suc zero) (suc (suc y)) l k = absurd (omega arith)
    go (suc (suc x)) y l k = absurd (omega arith)
