-- Laws of lists by index, of stretches one after the other and of the search for the first index.
use Prim.Native.Nat.{ℕ, zero, suc, ◌+◌, ◌-◌, ◌*◌, ◌≤◌, ◌<◌}
use mathlib.Core.Bool.{Bool, true, false, cond}
use mathlib.Core.List.{List, [], ◌∷◌, ◌++◌, append_assoc}
use mathlib.Core.Path.{◌≡◌, refl, sym, ap₂, subst, ◌∙◌}
use mathlib.Core.Logic.{⊎_elim}
use native.Mathlib.Nat.{add-zero, add-suc, suc-add, mul-suc, mul-zero, le_refl, add-sub_cancel_left, not-suc-le-zero, le_of_suc-le-suc, eq-or-lt_of_le, mul-le-mul_left}
use native.Mathlib.Numerals.{add-one}
use native.Mathlib.Omega.{arith}
use lib.ListN.{length, get_or, drop, set, length-append, get_or-append}
use lib.Seq.{drop-cons, set_at, append_snoc, get_or_at, take_at, drop_at, drop-drop, get_or-append-add, get_or-set_same, get_or-set_other}
use borrow.Rule.Slice.PartMut.{put_mid}
use Rattle.binary.specs.Lists.{list_to, join_to, first_from, Holds}

module _ {A : Type 0} (f : ℕ → A) where
  pub list_length : (n : ℕ) → length (list_to n f) ≡ n
  unfolding list_to
  list_length zero = refl
  list_length (suc n) = length-append (list_to n f) (f n ∷ []) ∙ rw (list_length n, add-one)

  pub fill_none : (d : List A) → d ≡ list_to 0 f ++ drop 0 d
  unfolding list_to
  fill_none d = refl

  -- a store of f n at n
  pub fill_more : (n : ℕ) (d : List A) → n < length d → set (list_to n f ++ drop n d) n (f n) ≡ list_to (n + 1) f ++ drop (n + 1) d
  unfolding list_to
  fill_more n d h =
      rw (add-one, drop-cons d n (f n) h)
      (set_at (list_to n f) (get_or d n (f n)) (drop (suc n) d) (f n) n (list_length n) ∙ sym (append_snoc (list_to n f) (f n) (drop (suc n) d)))

  pub list_at : (n i : ℕ) (d : A) → i < n → get_or (list_to n f) i d ≡ f i
  unfolding list_to
  list_at zero i d h = absurd (not-suc-le-zero h)
  list_at (suc n) i d h =
      ⊎_elim (λ (e : i ≡ n). rw e (get_or_at (list_to n f) (f n) [] d n (list_length n)))
      (λ (l : i < n). get_or-append (list_to n f) (f n ∷ []) d i (rw list_length l) ∙ list_at n i d l)
      (eq-or-lt_of_le (le_of_suc-le-suc h))

  -- the same with a rest behind it
  pub fill_at : (n i : ℕ) (d : A) (rest : List A) → i < n → get_or (list_to n f ++ rest) i d ≡ f i
  fill_at n i d rest h = get_or-append (list_to n f) rest d i (rw list_length h) ∙ list_at n i d h

-- functions that agree below n
pub list_same : {A : Type 0} (n : ℕ) (f g : ℕ → A) → ((k : ℕ) → k < n → f k ≡ g k) → list_to n f ≡ list_to n g
unfolding list_to
list_same zero f g e = refl
list_same {A} (suc n) f g e = ap₂ (λ (x : List A) (y : A). x ++ (y ∷ [])) (list_same n f g (λ k l. e k (omega arith))) (e n (le_refl (suc n)))

pub join_none : (f : ℕ → List ℕ) (k : ℕ) (d : List ℕ) → d ≡ join_to 0 f ++ drop (k * 0) d
unfolding join_to
join_none f k d = rw mul-zero

pub join_more : (n : ℕ) (f : ℕ → List ℕ) → join_to (n + 1) f ≡ join_to n f ++ f n
unfolding join_to
join_more n f = rw add-one

pub join_same : (n : ℕ) (f g : ℕ → List ℕ) → ((k : ℕ) → k < n → f k ≡ g k) → join_to n f ≡ join_to n g
unfolding join_to
join_same zero f g e = refl
join_same (suc n) f g e = ap₂ (λ (x y : List ℕ). x ++ y) (join_same n f g (λ k l. e k (omega arith))) (e n (le_refl (suc n)))

module _ (k : ℕ) (f : ℕ → List ℕ) (sized : (i : ℕ) → length (f i) ≡ k) where
  pub join_length : (n : ℕ) → length (join_to n f) ≡ k * n
  unfolding join_to
  join_length zero = rw mul-zero
  join_length (suc n) = rw (length-append, join_length n, sized, mul-suc)

  -- a loop that lends the part of k elements from k * i on
  pub join_part : (l₀ l ys : List ℕ) (i : ℕ) → l ≡ join_to i f ++ drop (k * i) l₀ → ys ≡ f i
      → put_mid (k * i) (k * i + k - k * i) l ys ≡ join_to (i + 1) f ++ drop (k * (i + 1)) l₀
  join_part l₀ l ys i inv e =
      let n : length (join_to i f) ≡ k * i = join_length i in
      let next : k * i + k ≡ k * (i + 1) = omega arith in
      rw (add-sub_cancel_left, inv, e, take_at (join_to i f) (drop (k * i) l₀) (k * i) n, drop_at (join_to i f) (drop (k * i) l₀) (k * i) n, drop-drop, next, join_more)
      (sym (append_assoc (join_to i f) (f i) (drop (k * (i + 1)) l₀)))

  -- stretch i
  pub join_at : (n i h : ℕ) → i < n → h < k → get_or (join_to n f) (k * i + h) 0 ≡ get_or (f i) h 0
  unfolding join_to
  join_at zero i h l b = absurd (not-suc-le-zero l)
  join_at (suc n) i h l b =
      ⊎_elim
      (λ (e : i ≡ n). rw (e, ← join_length n) (get_or-append-add (join_to n f) (f n) h 0))
      (λ (q : i < n).
      let r : k * i + k ≤ k * n = subst (λ (x : ℕ). x ≤ k * n) (mul-suc k i) (mul-le-mul_left k q) in
      get_or-append (join_to n f) (f n) 0 (k * i + h) (rw (join_length n) (omega arith)) ∙ join_at n i h q b)
      (eq-or-lt_of_le (le_of_suc-le-suc l))

-- the search upwards stays at or below its end, and ends where the test holds
pub from_le : (k j : ℕ) (p : ℕ → Bool) → first_from k j p ≤ j + k
unfolding first_from
from_le zero j p = omega arith
from_le (suc k) j p = pick (p j) (omega arith) (omega (arith, from_le k (suc j) p))
  where
    pick : (b : Bool) {x y z : ℕ} → x ≤ z → y ≤ z → cond b x y ≤ z
    pick true l r = l
    pick false l r = r

pub from_holds : (k j : ℕ) (p : ℕ → Bool) → p (j + k) ≡ true → p (first_from k j p) ≡ true
unfolding first_from
from_holds zero j p e = rw add-zero at e
from_holds (suc k) j p e = pick (p j) refl (from_holds k (suc j) p (rw (add-suc, ← suc-add) at e))
  where
    pick : (b : Bool) → p j ≡ b → p (first_from k (suc j) p) ≡ true → p (cond b j (first_from k (suc j) p)) ≡ true
    pick true q r = q
    pick false q r = r

-- a turn of the search, and its two ends
module _ (i j : ℕ) (p : ℕ → Bool) (x : ℕ) (inv : first_from (i - j) j p ≡ x) where
  pub from_found : j < i → p j ≡ true → j ≡ x
  unfolding first_from
  from_found l e =
      let more : i - j ≡ suc (i - (j + 1)) = omega arith in
      rw e at (rw more at inv)

  pub from_next : j < i → p j ≡ false → first_from (i - (j + 1)) (j + 1) p ≡ x
  unfolding first_from
  from_next l e =
      let more : i - j ≡ suc (i - suc j) = omega arith in
      rw add-one (rw e at (rw more at inv))

  pub from_end : i ≤ j → j ≡ x
  unfolding first_from
  from_end l =
      let none : i - j ≡ 0 = omega arith in
      rw none at inv

-- the test fails of each index that the search has passed
pub from_passed : (k j m : ℕ) (p : ℕ → Bool) → j ≤ m → m < first_from k j p → p m ≡ false
unfolding first_from
from_passed zero j m p l h = let z : ⊥ = omega arith in absurd z
from_passed (suc k) j m p l h = pick (p j) refl h (λ t r. from_passed k (suc j) m p t r)
  where
    pick : (b : Bool) → p j ≡ b → m < cond b j (first_from k (suc j) p) → (j < m → m < first_from k (suc j) p → p m ≡ false) → p m ≡ false
    pick true q r again = let z : ⊥ = omega arith in absurd z
    pick false q r again = ⊎_elim (λ (e : j ≡ m). rw e at q) (λ (t : j < m). again t r) (eq-or-lt_of_le l)

-- what a loop of stores leaves holds the figures
pub holds_fill : (n : ℕ) (f : ℕ → ℕ) (l d : List ℕ) → l ≡ list_to n f ++ drop n d → Holds n l f
holds_fill n f l d e i h = rw e (fill_at f n i 0 (drop n d) h)

-- ---- one place more

-- what is so at n and below is so below n + 1
pub up_to : (P : ℕ → Type 0) (n i : ℕ) → i < n + 1 → P n → (i < n → P i) → P i
up_to P n i l p q = let u : i ≤ n = omega arith in ⊎_elim (λ (e : i ≡ n). subst P (sym e) p) q (eq-or-lt_of_le u)

-- a store at n of what is to stand there
pub holds_more : (n : ℕ) (l : List ℕ) (f : ℕ → ℕ) (v : ℕ) → n < length l → Holds n l f → v ≡ f n → Holds (n + 1) (set l n v) f
holds_more n l f v long h e i q =
    up_to (λ (j : ℕ). get_or (set l n v) j 0 ≡ f j) n i q (get_or-set_same l n v 0 long ∙ e)
    (λ s. get_or-set_other l n i v 0 (λ t. omega arith) ∙ h i s)
