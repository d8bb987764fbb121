-- Masks joined, bit by bit.
use Prim.Native.Nat.{ℕ, zero, suc, ◌/◌, ◌%◌, ◌^◌, ◌<◌}
use mathlib.Core.Bool.{Bool, false, ◌&&◌, ◌||◌}
use mathlib.Core.Path.{◌≡◌, refl, sym, ap, ap₂, ◌∙◌}
use native.Mathlib.Nat.{mod-lt, lt_of_le_of_lt}
use native.Mathlib.Omega.{arith}
use lib.Bits.{bit_and, bit_or, or_shr, or_mod, or_lt, and_le_l}
use lib.Dec.{eqb, lit<}
use Rattle.binary.specs.Bounded.{mask_to, bit_of}
use Rattle.binary.proofs.MaskLaws.{mask_same, mask_lt, mask_bits, bit_mask, bit_of_and}

-- a bit that one of two numbers has
bit_of_or : (a b i : ℕ) → bit_of (bit_or a b) i ≡ (bit_of a i || bit_of b i)
unfolding bit_of
bit_of_or a b i =
    rw (or_shr a b i, or_mod (a / 2 ^ i) (b / 2 ^ i) 1)
    (go (a / 2 ^ i % 2) (b / 2 ^ i % 2) (mod-lt (a / 2 ^ i) (lit< tt)) (mod-lt (b / 2 ^ i) (lit< tt)))
  where
    go : (x y : ℕ) → x < 2 → y < 2 → eqb (bit_or x y) 1 ≡ (eqb x 1 || eqb y 1)
    go zero zero l k = refl
    go zero (suc zero) l k = refl
    go zero (suc (suc y)) l k = absurd (omega arith)
    go (suc zero) zero l k = refl
    go (suc zero) (suc zero) l k = refl
    go (suc zero) (suc (suc y)) l k = absurd (omega arith)
    go (suc (suc x)) y l k = absurd (omega arith)

-- a number below 2 ^ n with the bits of p is the mask of p
mask_is : (n m : ℕ) (p : ℕ → Bool) → m < 2 ^ n → ((i : ℕ) → i < n → bit_of m i ≡ p i) → m ≡ mask_to n p
mask_is n m p l f = sym (mask_bits n m l) ∙ mask_same n (bit_of m) p f

pub or_mask : (n : ℕ) (p q : ℕ → Bool) → bit_or (mask_to n p) (mask_to n q) ≡ mask_to n (λ i. p i || q i)
or_mask n p q =
    mask_is n (bit_or (mask_to n p) (mask_to n q)) (λ i. p i || q i) (or_lt n _ _ (mask_lt n p) (mask_lt n q))
    (λ i l. bit_of_or (mask_to n p) (mask_to n q) i ∙ ap₂ (λ (x y : Bool). x || y) (bit_mask n i p l) (bit_mask n i q l))

-- a mask cut to the bits of a number
pub cut_mask : (n m : ℕ) (p : ℕ → Bool) → bit_and (mask_to n p) m ≡ mask_to n (λ i. p i && bit_of m i)
cut_mask n m p =
    mask_is n (bit_and (mask_to n p) m) (λ i. p i && bit_of m i) (lt_of_le_of_lt (and_le_l (mask_to n p) m) (mask_lt n p))
    (λ i l. bit_of_and (mask_to n p) m i ∙ ap (λ (x : Bool). x && bit_of m i) (bit_mask n i p l))

pub and_mask : (n : ℕ) (p q : ℕ → Bool) → bit_and (mask_to n p) (mask_to n q) ≡ mask_to n (λ i. p i && q i)
and_mask n p q =
    cut_mask n (mask_to n q) p
    ∙ mask_same n (λ i. p i && bit_of (mask_to n q) i) (λ i. p i && q i) (λ i l. ap (λ (x : Bool). p i && x) (bit_mask n i q l))

-- the hours of one mask, and those of another that a number has
pub join_mask : (n m : ℕ) (p q : ℕ → Bool) → bit_or (mask_to n p) (bit_and (mask_to n q) m) ≡ mask_to n (λ i. p i || (q i && bit_of m i))
join_mask n m p q = ap (λ (x : ℕ). bit_or (mask_to n p) x) (cut_mask n m q) ∙ or_mask n p (λ i. q i && bit_of m i)

pub none_mask : (n : ℕ) (p : ℕ → Bool) → ((i : ℕ) → i < n → p i ≡ false) → 0 ≡ mask_to n p
unfolding mask_to
none_mask zero p f = refl
none_mask (suc n) p f = rw (f n (omega arith)) (let e = none_mask n p (λ i l. f i (omega arith)) in omega arith)
