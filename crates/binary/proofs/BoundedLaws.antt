-- The laws of sums, counts, tests and places below a bound: one index more, as a loop's turn has it; equal or larger
-- members; bounds; and what one index decides.
use Prim.Native.Nat.{ℕ, zero, suc, ◌+◌, ◌*◌, ◌≤◌, ◌<◌, zero-le}
use mathlib.Core.Bool.{Bool, true, false, cond, ◌&&◌, ◌||◌, and-false, or-true}
use mathlib.Core.Logic.{⊎_elim}
use mathlib.Core.Path.{◌≡◌, refl, sym, ap, ap₂, subst, ◌∙◌}
use native.Mathlib.Nat.{add-zero, add-suc, add_assoc, le_refl, add-le-add, mul-le-mul, eq-or-lt_of_le, le_of_suc-le-suc, not-suc-le-zero}
use native.Mathlib.Numerals.{add-one}
use native.Mathlib.Omega.{arith}
use lib.Dec.{ltb}
use borrow.Author.Tests.{lt-ltb}
use Rattle.binary.specs.Bounded.{sum_to, count_to, any_to, all_to, first_to, last_to}
use Rattle.binary.proofs.Implies.{◌⇒◌, keep, or_mono, count_le, and_l, and_r, or_l, or_r}

-- ---- none, and one more

pub sum_none : (f : ℕ → ℕ) → 0 ≡ sum_to 0 f
unfolding sum_to
sum_none f = refl

pub sum_more : (n : ℕ) (f : ℕ → ℕ) → sum_to (n + 1) f ≡ sum_to n f + f n
unfolding sum_to
sum_more n f = rw add-one

pub count_none : (p : ℕ → Bool) → 0 ≡ count_to 0 p
unfolding count_to
count_none p = refl

pub count_more : (n : ℕ) (p : ℕ → Bool) → count_to (n + 1) p ≡ count_to n p + cond (p n) 1 0
unfolding count_to
count_more n p = rw add-one

pub any_none : (p : ℕ → Bool) → false ≡ any_to 0 p
unfolding any_to
any_none p = refl

pub any_more : (n : ℕ) (p : ℕ → Bool) → any_to (n + 1) p ≡ (any_to n p || p n)
unfolding any_to
any_more n p = rw add-one

pub all_none : (p : ℕ → Bool) → true ≡ all_to 0 p
unfolding all_to
all_none p = refl

pub all_more : (n : ℕ) (p : ℕ → Bool) → all_to (n + 1) p ≡ (all_to n p && p n)
unfolding all_to
all_more n p = rw add-one

pub first_none : (p : ℕ → Bool) → 0 ≡ first_to 0 p
unfolding first_to
first_none p = refl

pub first_more : (n : ℕ) (p : ℕ → Bool) → first_to (n + 1) p ≡ cond (ltb (first_to n p) n || p n) (first_to n p) (n + 1)
unfolding first_to
first_more n p = rw add-one

pub last_none : (p : ℕ → Bool) → 0 ≡ last_to 0 p
unfolding last_to
last_none p = refl

pub last_more : (n : ℕ) (p : ℕ → Bool) → last_to (n + 1) p ≡ cond (p n) n (last_to n p)
unfolding last_to
last_more n p = rw add-one

-- ---- members that agree below the bound

pub sum_same : (n : ℕ) (f g : ℕ → ℕ) → ((i : ℕ) → i < n → f i ≡ g i) → sum_to n f ≡ sum_to n g
unfolding sum_to
sum_same zero f g h = refl
sum_same (suc n) f g h = ap₂ ◌+◌ (sum_same n f g (λ i l. h i (omega arith))) (h n (omega arith))

pub count_same : (n : ℕ) (p q : ℕ → Bool) → ((i : ℕ) → i < n → p i ≡ q i) → count_to n p ≡ count_to n q
unfolding count_to
count_same zero p q h = refl
count_same (suc n) p q h =
    ap₂ ◌+◌ (count_same n p q (λ i l. h i (omega arith))) (ap (λ (t : Bool). cond t 1 0) (h n (omega arith)))

pub any_same : (n : ℕ) (p q : ℕ → Bool) → ((i : ℕ) → i < n → p i ≡ q i) → any_to n p ≡ any_to n q
unfolding any_to
any_same zero p q h = refl
any_same (suc n) p q h = ap₂ ◌||◌ (any_same n p q (λ i l. h i (omega arith))) (h n (omega arith))

all_same : (n : ℕ) (p q : ℕ → Bool) → ((i : ℕ) → i < n → p i ≡ q i) → all_to n p ≡ all_to n q
unfolding all_to
all_same zero p q h = refl
all_same (suc n) p q h = ap₂ ◌&&◌ (all_same n p q (λ i l. h i (omega arith))) (h n (omega arith))

pub first_same : (n : ℕ) (p q : ℕ → Bool) → ((i : ℕ) → i < n → p i ≡ q i) → first_to n p ≡ first_to n q
unfolding first_to
first_same zero p q h = refl
first_same (suc n) p q h =
    ap₂ (λ (k : ℕ) (t : Bool). cond (ltb k n || t) k (suc n)) (first_same n p q (λ i l. h i (omega arith))) (h n (omega arith))

pub last_same : (n : ℕ) (p q : ℕ → Bool) → ((i : ℕ) → i < n → p i ≡ q i) → last_to n p ≡ last_to n q
unfolding last_to
last_same zero p q h = refl
last_same (suc n) p q h =
    ap₂ (λ (k : ℕ) (t : Bool). cond t n k) (last_same n p q (λ i l. h i (omega arith))) (h n (omega arith))

-- ---- larger members

pub sum_mono : (n : ℕ) (f g : ℕ → ℕ) → ((i : ℕ) → i < n → f i ≤ g i) → sum_to n f ≤ sum_to n g
unfolding sum_to
sum_mono zero f g h = le_refl 0
sum_mono (suc n) f g h = add-le-add (sum_mono n f g (λ i l. h i (omega arith))) (h n (omega arith))

pub count_mono : (n : ℕ) (p q : ℕ → Bool) → ((i : ℕ) → i < n → p i ⇒ q i) → count_to n p ≤ count_to n q
unfolding count_to
count_mono zero p q h = le_refl 0
count_mono (suc n) p q h =
    add-le-add (count_mono n p q (λ i l. h i (omega arith))) (count_le (h n (omega arith)) (le_refl 1))

pub any_mono : (n : ℕ) (p q : ℕ → Bool) → ((i : ℕ) → i < n → p i ⇒ q i) → any_to n p ⇒ any_to n q
unfolding any_to
any_mono zero p q h = keep false
any_mono (suc n) p q h = or_mono (any_mono n p q (λ i l. h i (omega arith))) (h n (omega arith))

-- ---- bounds

-- with both bounds written out, as omega wants them
pub product_bound : (x y m n : ℕ) → x ≤ m → y ≤ n → x * y ≤ m * n
product_bound x y m n p q = mul-le-mul p q

pub sum_bound : (n : ℕ) (f : ℕ → ℕ) (b : ℕ) → ((i : ℕ) → i < n → f i ≤ b) → sum_to n f ≤ n * b
unfolding sum_to
sum_bound zero f b h = zero-le
sum_bound (suc n) f b h =
    let s = sum_bound n f b (λ i l. h i (omega arith)) in
    let t = h n (omega arith) in
    omega arith

pub count_bound : (n : ℕ) (p : ℕ → Bool) → count_to n p ≤ n
unfolding count_to
count_bound zero p = zero-le
count_bound (suc n) p = go (p n) (count_bound n p)
  where
    go : (b : Bool) → count_to n p ≤ n → count_to n p + cond b 1 0 ≤ suc n
    go true h = omega arith
    go false h = omega arith

pub first_bound : (n : ℕ) (p : ℕ → Bool) → first_to n p ≤ n
unfolding first_to
first_bound zero p = zero-le
first_bound (suc n) p = go (ltb (first_to n p) n || p n) (first_bound n p)
  where
    go : (b : Bool) → first_to n p ≤ n → cond b (first_to n p) (suc n) ≤ suc n
    go true h = omega arith
    go false h = omega arith

pub last_bound : (n : ℕ) (p : ℕ → Bool) → 0 < n → last_to n p < n
unfolding last_to
last_bound zero p h = h
last_bound (suc n) p h = go n (p n) (last_bound n p)
  where
    none : last_to 0 p < 1
    none = omega arith

    go : (k : ℕ) (b : Bool) → (0 < k → last_to k p < k) → cond b k (last_to k p) < suc k
    go k true f = omega arith
    go zero false f = none
    go (suc k) false f = let l = f (omega arith) in omega arith

-- ---- what one index decides

pub all_at : (n i : ℕ) (p : ℕ → Bool) → i < n → all_to n p ≡ true → p i ≡ true
unfolding all_to
all_at zero i p h e = absurd (not-suc-le-zero h)
all_at (suc n) i p h e =
    ⊎_elim
    (λ q. subst (λ (k : ℕ). p k ≡ true) (sym q) (and_r (all_to n p) (p n) e))
    (λ l. all_at n i p l (and_l (all_to n p) (p n) e))
    (eq-or-lt_of_le (le_of_suc-le-suc h))

pub all_false : (n i : ℕ) (p : ℕ → Bool) → i < n → p i ≡ false → all_to n p ≡ false
unfolding all_to
all_false zero i p h e = absurd (not-suc-le-zero h)
all_false (suc n) i p h e =
    ⊎_elim
    (λ q. ap (λ (b : Bool). all_to n p && b) (subst (λ (k : ℕ). p k ≡ false) q e) ∙ and-false (all_to n p))
    (λ l. ap (λ (b : Bool). b && p n) (all_false n i p l e))
    (eq-or-lt_of_le (le_of_suc-le-suc h))

pub any_true : (n i : ℕ) (p : ℕ → Bool) → i < n → p i ≡ true → any_to n p ≡ true
unfolding any_to
any_true zero i p h e = absurd (not-suc-le-zero h)
any_true (suc n) i p h e =
    ⊎_elim
    (λ q. ap (λ (b : Bool). any_to n p || b) (subst (λ (k : ℕ). p k ≡ true) q e) ∙ or-true (any_to n p))
    (λ l. ap (λ (b : Bool). b || p n) (any_true n i p l e))
    (eq-or-lt_of_le (le_of_suc-le-suc h))

pub any_at : (n i : ℕ) (p : ℕ → Bool) → i < n → any_to n p ≡ false → p i ≡ false
unfolding any_to
any_at zero i p h e = absurd (not-suc-le-zero h)
any_at (suc n) i p h e =
    ⊎_elim
    (λ q. subst (λ (k : ℕ). p k ≡ false) (sym q) (or_r (any_to n p) (p n) e))
    (λ l. any_at n i p l (or_l (any_to n p) (p n) e))
    (eq-or-lt_of_le (le_of_suc-le-suc h))

-- no index passes
pub any_false : (n : ℕ) (p : ℕ → Bool) → ((i : ℕ) → i < n → p i ≡ false) → any_to n p ≡ false
unfolding any_to
any_false zero p h = refl
any_false (suc n) p h = rw (any_false n p (λ i l. h i (omega arith)), h n (omega arith))

-- every index passes
pub all_true : (n : ℕ) (p : ℕ → Bool) → ((i : ℕ) → i < n → p i ≡ true) → all_to n p ≡ true
unfolding all_to
all_true zero p h = refl
all_true (suc n) p h = rw (all_true n p (λ i l. h i (omega arith)), h n (omega arith))

-- where some index passes, the last one does
pub last_holds : (n : ℕ) (p : ℕ → Bool) → any_to n p ≡ true → p (last_to n p) ≡ true
unfolding any_to last_to
last_holds zero p e = cc
last_holds (suc n) p e = go (p n) refl (last_holds n p) e
  where
    go : (b : Bool) → p n ≡ b → (any_to n p ≡ true → p (last_to n p) ≡ true) → (any_to n p || b) ≡ true
        → p (cond b n (last_to n p)) ≡ true
    go true q f h = q
    go false q f h = f (or_false_l (any_to n p) h)
      where
        or_false_l : (x : Bool) → (x || false) ≡ true → x ≡ true
        or_false_l true h = refl
        or_false_l false h = h

-- ---- counts

-- the count below k + m, cut at k
pub count_split : (k m : ℕ) (p : ℕ → Bool) → count_to (k + m) p ≡ count_to k p + count_to m (λ i. p (k + i))
unfolding count_to
count_split k zero p = rw (add-zero k) (sym (add-zero (count_to k p)))
count_split k (suc m) p =
    rw (add-suc k m) (ap (λ (x : ℕ). x + cond (p (k + m)) 1 0) (count_split k m p) ∙ add_assoc _ _ _)

-- one is put in after the first k: no count falls
pub count_insert : (k m : ℕ) (p q : ℕ → Bool) → ((j : ℕ) → j < k → p j ≡ q j)
    → ((j : ℕ) → j < m → p (k + j) ≡ q (k + (1 + j))) → count_to (k + m) p ≤ count_to (k + (1 + m)) q
count_insert k m p q f g =
    let a = count_split k m p in
    let b = count_split k (1 + m) q in
    let c = count_split 1 m (λ j. q (k + j)) in
    let d = count_same k p q f in
    let e = count_same m (λ j. p (k + j)) (λ j. q (k + (1 + j))) g in
    omega arith

-- some index passes where the count is above 0
pub any_count : (n : ℕ) (p : ℕ → Bool) → any_to n p ≡ ltb 0 (count_to n p)
unfolding any_to count_to
any_count zero p = refl
any_count (suc n) p = ap (λ (b : Bool). b || p n) (any_count n p) ∙ go (count_to n p) (p n)
  where
    go : (k : ℕ) (b : Bool) → (ltb 0 k || b) ≡ ltb 0 (k + cond b 1 0)
    go zero true = refl
    go zero false = refl
    go (suc k) b = rw (lt-ltb 0 (suc k) (omega arith)) (sym (lt-ltb 0 (suc k + cond b 1 0) (omega arith)))
