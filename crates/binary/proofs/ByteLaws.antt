-- Laws of numbers in bytes, over the width.
use Prim.Native.Nat.{ℕ, zero, suc, ◌+◌, ◌*◌, ◌/◌, ◌%◌, ◌^◌, ◌≤◌, ◌<◌}
use mathlib.Core.List.{List, [], ◌∷◌, ◌++◌}
use mathlib.Core.Logic.{◌≢◌}
use mathlib.Core.Path.{◌≡◌, refl, sym, ◌∙◌, ap, ap₂}
use native.Mathlib.Nat.{add-zero, add_assoc, zero-add, one-mul, suc-add, pow-suc, pow-zero, div-lt_iff_lt-mul}
use native.Mathlib.Numerals.{add-one}
use native.Mathlib.Omega.{arith}
use lib.ListN.{length, drop, take, set, length-set, length-take, length-drop}
use lib.Seq.{sets, get_or-set_same, get_or-set_other, get_or-append-add, get_or-take, get_or-drop, ext_get_or}
use Rattle.binary.specs.Bytes.{byte_at, value_at, bytes_of, byte_value}

-- the lower bytes and the upper bytes
pub value_add : (m n : ℕ) (s : List ℕ) (p : ℕ) → value_at (m + n) s p ≡ value_at m s p + 256 ^ m * value_at n s (p + m)
unfolding value_at
value_add zero n s p = simp (zero-add, add-zero, pow-zero, one-mul)
value_add (suc m) n s p =
    let e : p + 1 + m ≡ p + suc m = omega arith in
    let step = value_add m n s (p + 1) in
    simp (suc-add, step, e, pow-suc) (omega arith)

pub value_one : (s : List ℕ) (p : ℕ) → value_at 1 s p ≡ byte_at s p
value_one s p = sym (byte_value s p)

-- a number past the first a bytes
value_drop : (w a : ℕ) (s : List ℕ) (p : ℕ) → value_at w (drop a s) p ≡ value_at w s (a + p)
unfolding value_at
value_drop zero a s p = refl
value_drop (suc w) a s p =
    ap₂ (λ (b v : ℕ). b + 256 * v) (get_or-drop a s p 0) (value_drop w a s (p + 1) ∙ ap (value_at w s) (sym (add_assoc a p 1)))

-- a number within the first n bytes
pub value_take : (w n : ℕ) (s : List ℕ) (p : ℕ) → p + w ≤ n → value_at w (take n s) p ≡ value_at w s p
unfolding value_at
value_take zero n s p l = refl
value_take (suc w) n s p l = ap₂ (λ (b v : ℕ). b + 256 * v) (get_or-take n s p 0 (omega arith)) (value_take w n s (p + 1) (omega arith))

-- a number depends on its own bytes alone
pub value_same : (w : ℕ) (f g : List ℕ) (p q : ℕ) → ((k : ℕ) → k < w → byte_at f (p + k) ≡ byte_at g (q + k))
    → value_at w f p ≡ value_at w g q
unfolding value_at
value_same zero f g p q h = refl
value_same (suc w) f g p q h =
    ap₂ (λ (b v : ℕ). b + 256 * v) (simp add-zero at (h 0 (omega arith)))
    (value_same w f g (p + 1) (q + 1) (λ k l. rw (add_assoc p 1 k, add_assoc q 1 k) (h (1 + k) (omega arith))))

-- ---- the bytes of a number

pub bytes_length : (w v : ℕ) → length (bytes_of w v) ≡ w
unfolding bytes_of
bytes_length zero v = refl
bytes_length (suc w) v = ap suc (bytes_length w (v / 256))

byte_skip : (n : ℕ) (xs ys : List ℕ) (p : ℕ) → length xs ≡ n → byte_at (xs ++ ys) (n + p) ≡ byte_at ys p
byte_skip n xs ys p e = ap (λ (m : ℕ). byte_at (xs ++ ys) (m + p)) (sym e) ∙ get_or-append-add xs ys p 0

pub value_skip : (w n : ℕ) (xs ys : List ℕ) (p : ℕ) → length xs ≡ n → value_at w (xs ++ ys) (n + p) ≡ value_at w ys p
value_skip w n xs ys p e =
    value_same w (xs ++ ys) ys (n + p) p (λ k l. rw (add_assoc n p k) (byte_skip n xs ys (p + k) e))

upper : (w v : ℕ) → v < 256 ^ suc w → v / 256 < 256 ^ w
upper w v h = (div-lt_iff_lt-mul {k = 256} (omega arith)).1 (rw pow-suc at h)

pub bytes_read : (w v : ℕ) (ys : List ℕ) → v < 256 ^ w → value_at w (bytes_of w v ++ ys) 0 ≡ v
unfolding bytes_of value_at
bytes_read zero v ys h = omega arith
bytes_read (suc w) v ys h =
    ap (λ (x : ℕ). v % 256 + 256 * x)
    (value_skip w 1 (v % 256 ∷ []) (bytes_of w (v / 256) ++ ys) 0 refl ∙ bytes_read w (v / 256) ys (upper w v h))
    ∙ omega arith

-- ---- bytes stored

sets_other : (vs f : List ℕ) (p j : ℕ) → ((k : ℕ) → k < length vs → j ≢ p + k) → byte_at (sets f p vs) j ≡ byte_at f j
sets_other [] f p j n = refl
sets_other (v ∷ vs) f p j n =
    sets_other vs (set f p v) (suc p) j (λ k l q. n (suc k) (omega arith) (omega arith))
    ∙ get_or-set_other f p j v 0 (λ q. n 0 (omega arith) (omega arith))

pub stored_other : (w v : ℕ) (f : List ℕ) (p j : ℕ) → ((k : ℕ) → k < w → j ≢ p + k)
    → byte_at (sets f p (bytes_of w v)) j ≡ byte_at f j
stored_other w v f p j n =
    sets_other (bytes_of w v) f p j (λ k l. n k (omega (arith, bytes_length w v)))

pub stored_read : (w v : ℕ) (f : List ℕ) (p : ℕ) → p + w ≤ length f → v < 256 ^ w → value_at w (sets f p (bytes_of w v)) p ≡ v
unfolding value_at bytes_of
stored_read zero v f p l h = omega arith
stored_read (suc w) v f p l h =
    let n = length-set f p (v % 256) in
    go (stored_read w (v / 256) (set f p (v % 256)) (suc p) (omega arith) (upper w v h))
  where
    rest : List ℕ
    rest = sets (set f p (v % 256)) (suc p) (bytes_of w (v / 256))

    go : value_at w rest (suc p) ≡ v / 256 → byte_at rest p + 256 * value_at w rest (p + 1) ≡ v
    go e =
        ap₂ (λ (b x : ℕ). b + 256 * x)
        (stored_other w (v / 256) (set f p (v % 256)) (suc p) p (omega arith) ∙ get_or-set_same f p (v % 256) 0 (omega arith))
        (ap (value_at w rest) (add-one p) ∙ e)
        ∙ omega arith

-- ---- a stretch: n bytes from o on

pub stretch_length : (f : List ℕ) (o n : ℕ) → o + n ≤ length f → length (take n (drop o f)) ≡ n
stretch_length f o n h = simp (length-take, length-drop) (omega arith)

pub stretch_byte : (f : List ℕ) (o n j : ℕ) → j < n → byte_at (take n (drop o f)) j ≡ byte_at f (o + j)
stretch_byte f o n j h = get_or-take n (drop o f) j 0 h ∙ get_or-drop o f j 0

-- equal by their bytes, wherever the lists end
pub stretch_same : (f g : List ℕ) (o q n : ℕ) → length (take n (drop o f)) ≡ length (take n (drop q g))
    → ((j : ℕ) → j < n → byte_at f (o + j) ≡ byte_at g (q + j)) → take n (drop o f) ≡ take n (drop q g)
stretch_same f g o q n e h =
    ext_get_or 0 (take n (drop o f)) (take n (drop q g)) e
    λ j l. let k : j < n = short j l in stretch_byte f o n j k ∙ h j k ∙ sym (stretch_byte g q n j k)
  where
    short : (j : ℕ) → j < length (take n (drop o f)) → j < n
    short j l = let m = length-take n (drop o f) in omega arith
