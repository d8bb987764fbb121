-- `(0..n).all(f)` and `(0..n).any(f)`, where f tests the number i, answer whether every i below n passes, and whether some i does.
use Prim.Native.Nat.{ℕ, zero, suc, ◌+◌}
use mathlib.Core.Bool.{Bool, true, false, ◌&&◌, ◌||◌}
use mathlib.Core.List.{List}
use mathlib.Core.Path.{◌≡◌, refl, ap, ap₂, ◌∙◌}
use native.Mathlib.Omega.{arith}
use denote.Param.Members.{Mut}
use Rattle.std.specs.Prelude.{Option, MatchOption}
use Rattle.std.specs.Iterator.{YieldsThen}
use Rattle.std.specs.List.{FoldsTo, list_all, list_any, range_with_len}
use Rattle.std.specs.Fn.{Called}
use Rattle.std.proofs.lemmas.Iterator.{YieldsList}
use Rattle.std.proofs.lemmas.Iterator.Search.{all_from_yields_List, any_from_yields_List}
use Rattle.binary.specs.Bounded.{all_to, any_to}

one-last : (b : Bool) → (b && true) ≡ (true && b)
one-last true = refl
one-last false = refl

one-more : (a b c : Bool) → (a && (b && c)) ≡ ((a && b) && c)
one-more true b c = refl
one-more false b c = refl

last : (p : ℕ → Bool) (n a : ℕ) → list_all p (range_with_len a (suc n)) ≡ (list_all p (range_with_len a n) && p (a + n))
last p zero a = one-last (p a) ∙ ap p (let e : a ≡ a + 0 = omega arith in e)
last p (suc n) a =
    ap (λ (b : Bool). p a && b) (last p n (a + 1) ∙ ap (λ (x : ℕ). list_all p (range_with_len (a + 1) n) && p x) (let e : a + 1 + n ≡ a + suc n = omega arith in e))
    ∙ one-more (p a) (list_all p (range_with_len (a + 1) n)) (p (a + suc n))

below : (p : ℕ → Bool) (n : ℕ) → list_all p (range_with_len 0 n) ≡ all_to n p
unfolding all_to
below p zero = refl
below p (suc n) = last p n 0 ∙ ap₂ (λ (b : Bool) (x : ℕ). b && p x) (below p n) (let e : 0 + n ≡ n = omega arith in e)

or-last : (b : Bool) → (b || false) ≡ (false || b)
or-last true = refl
or-last false = refl

or-more : (a b c : Bool) → (a || (b || c)) ≡ ((a || b) || c)
or-more true b c = refl
or-more false b c = refl

any-last : (p : ℕ → Bool) (n a : ℕ) → list_any p (range_with_len a (suc n)) ≡ (list_any p (range_with_len a n) || p (a + n))
any-last p zero a = or-last (p a) ∙ ap p (let e : a ≡ a + 0 = omega arith in e)
any-last p (suc n) a =
    ap (λ (b : Bool). p a || b) (any-last p n (a + 1) ∙ ap (λ (x : ℕ). list_any p (range_with_len (a + 1) n) || p x) (let e : a + 1 + n ≡ a + suc n = omega arith in e))
    ∙ or-more (p a) (list_any p (range_with_len (a + 1) n)) (p (a + suc n))

any-below : (p : ℕ → Bool) (n : ℕ) → list_any p (range_with_len 0 n) ≡ any_to n p
unfolding any_to
any-below p zero = refl
any-below p (suc n) = any-last p n 0 ∙ ap₂ (λ (b : Bool) (x : ℕ). b || p x) (any-below p n) (let e : 0 + n ≡ n = omega arith in e)

module _ {S F : Type 0} {steps : S → Option ℕ → S → Type 0} {g : Mut F (ℕ × Unit {0}) Bool} (test : ℕ → Bool) (n : ℕ) (s u : S) (f : F) (r : Bool) where
  pub all_in_range : YieldsList steps (λ (x : ℕ). x) s (range_with_len 0 n)
      → (xs : List ℕ) × (o : Option ℕ) × (j : F) × YieldsThen steps s xs o u × FoldsTo (λ p x q. Called g p (x, tt) true q) f xs j × MatchOption o (r ≡ true) (λ x. (r ≡ false) × ((h : F) × Called g j (x, tt) false h))
      → ((x : ℕ) (b : Bool) (q : F) → Called g f (x, tt) b q → (q ≡ f) × (b ≡ test x))
      → r ≡ all_to n test
  all_in_range e d k = all_from_yields_List test u f r d e k ∙ below test n

  pub any_in_range : YieldsList steps (λ (x : ℕ). x) s (range_with_len 0 n)
      → (xs : List ℕ) × (o : Option ℕ) × (j : F) × YieldsThen steps s xs o u × FoldsTo (λ p x q. Called g p (x, tt) false q) f xs j × MatchOption o (r ≡ false) (λ x. (r ≡ true) × ((h : F) × Called g j (x, tt) true h))
      → ((x : ℕ) (b : Bool) (q : F) → Called g f (x, tt) b q → (q ≡ f) × (b ≡ test x))
      → r ≡ any_to n test
  any_in_range e d k = any_from_yields_List test u f r d e k ∙ any-below test n
