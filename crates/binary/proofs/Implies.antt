-- One test implies another, as a record, so that `search mono` finds the way through `&&`, `||`, `cond` and the orders; and
-- what a test that holds or fails says of its parts.
use mathlib.Core.Bool.{Bool, true, false, cond, not, ◌&&◌, ◌||◌}
use mathlib.Core.Logic.{◌⊎◌, inl, inr}
use mathlib.Core.Path.{◌≡◌, refl, sym}
use Prim.Native.Nat.{ℕ, ◌≤◌, zero-le}
use native.Mathlib.Nat.{le_refl, mul-le-mul_left, mul-le-mul_right}
use native.Mathlib.Omega.{arith}
use lib.Dec.{T, ltb, leb, ltb→lt, lt→ltb, leb→le, le→leb}

infix 20 ◌⇒◌
pub record ◌⇒◌ (a b : Bool) : Type 0 where
  pub give : T a → T b

pub keep : (a : Bool) → a ⇒ a
keep a = record { give = λ t. t }

pub and_mono : {a b a' b' : Bool} → a ⇒ a' → b ⇒ b' → (a && b) ⇒ (a' && b')
and_mono {a} {b} {a'} {b'} f g = record { give = go a a' f.give g.give }
  where
    go : (x x' : Bool) → (T x → T x') → (T b → T b') → T (x && b) → T (x' && b')
    go true true f g t = g t
    go true false f g t = absurd (f tt)
    go false x' f g t = absurd t

pub or_mono : {a b a' b' : Bool} → a ⇒ a' → b ⇒ b' → (a || b) ⇒ (a' || b')
or_mono {a} {b} {a'} {b'} f g = record { give = go a a' f.give g.give }
  where
    go : (x x' : Bool) → (T x → T x') → (T b → T b') → T (x || b) → T (x' || b')
    go x true f g t = tt
    go true false f g t = absurd (f tt)
    go false false f g t = g t

pub ltb_mono : (m : ℕ) {n n' : ℕ} → n ≤ n' → ltb m n ⇒ ltb m n'
ltb_mono m {n} {n'} g = record { give = λ t. omega (arith, ltb→lt, lt→ltb) }

pub leb_mono : (m : ℕ) {n n' : ℕ} → n ≤ n' → leb m n ⇒ leb m n'
leb_mono m {n} {n'} g = record { give = λ t. omega (arith, leb→le, le→leb) }

-- one choice, made by the same test in both
pub cond_mono : (b : Bool) {x y x' y' : Bool} → (T b → x ⇒ x') → (T (not b) → y ⇒ y') → cond b x y ⇒ cond b x' y'
cond_mono true f g = f tt
cond_mono false f g = g tt

pub cond_le : (b : Bool) {x y x' y' : ℕ} → (T b → x ≤ x') → (T (not b) → y ≤ y') → cond b x y ≤ cond b x' y'
cond_le true f g = f tt
cond_le false f g = g tt

pub cond_same : (b : Bool) {x y x' y' : ℕ} → (T b → x ≡ x') → (T (not b) → y ≡ y') → cond b x y ≡ cond b x' y'
cond_same true f g = f tt
cond_same false f g = g tt

pub cond_bound : (b : Bool) {x y n : ℕ} → (T b → x ≤ n) → (T (not b) → y ≤ n) → cond b x y ≤ n
cond_bound true f g = f tt
cond_bound false f g = g tt

-- the second test is compared where the first passes
pub and_given : (a : Bool) {b b' : Bool} → (T a → b ⇒ b') → (a && b) ⇒ (a && b')
and_given true f = f tt
and_given false f = keep false

-- a choice of two numbers by a test that passes more often
pub choice_le : {p q : Bool} {x y : ℕ} → p ⇒ q → y ≤ x → cond p x y ≤ cond q x y
choice_le {p} {q} {x} {y} f h = go p q f.give
  where
    go : (p q : Bool) → (T p → T q) → cond p x y ≤ cond q x y
    go true true f = le_refl x
    go true false f = absurd (f tt)
    go false true f = h
    go false false f = le_refl y

-- a larger amount, counted where a test passes that passes more often
pub count_le : {p q : Bool} {x y : ℕ} → p ⇒ q → x ≤ y → cond p x 0 ≤ cond q y 0
count_le {p} {q} {x} {y} f h = go p q f.give
  where
    go : (p q : Bool) → (T p → T q) → cond p x 0 ≤ cond q y 0
    go true true f = h
    go true false f = absurd (f tt)
    go false q f = zero-le

pub ruleset mono = (or_mono, and_mono, keep, ltb_mono, leb_mono, le_refl, mul-le-mul_left, mul-le-mul_right)

-- a test as an equation
pub T→true : (b : Bool) → T b → b ≡ true
T→true true t = refl
T→true false t = absurd t

pub true→T : (b : Bool) → b ≡ true → T b
true→T b e = rw e tt

-- two tests that imply each other are equal
pub same_test : (a b : Bool) → (a ≡ true → b ≡ true) → (b ≡ true → a ≡ true) → a ≡ b
same_test true b f g = sym (f refl)
same_test false true f g = g refl
same_test false false f g = refl

-- the parts of an && that holds, and of an || that fails
pub and_l : (x y : Bool) → (x && y) ≡ true → x ≡ true
and_l true y h = refl
and_l false y h = h

pub and_r : (x y : Bool) → (x && y) ≡ true → y ≡ true
and_r true y h = h
and_r false true h = refl
and_r false false h = h

pub or_l : (x y : Bool) → (x || y) ≡ false → x ≡ false
or_l true y h = h
or_l false y h = refl

pub or_r : (x y : Bool) → (x || y) ≡ false → y ≡ false
or_r true true h = h
or_r true false h = refl
or_r false y h = h

-- the same of a test as a type: `search (and_left, and_right)` takes a long && apart
pub and_left : (a b : Bool) → T (a && b) → T a
and_left true b t = tt
and_left false b t = t

pub and_right : (a b : Bool) → T (a && b) → T b
and_right true b t = t
and_right false b t = absurd t

pub or_cases : (a b : Bool) → T (a || b) → T a ⊎ T b
or_cases true b t = inl tt
or_cases false b t = inr t
