-- Bounds of the two parts of a signed word, and what its range says.
use Prim.Native.Nat.{ℕ, suc, ◌-◌, ◌*◌, ◌^◌, ◌≤◌, ◌<◌, zero-le}
use mathlib.Core.Bool.{Bool, true, false, cond}
use mathlib.Core.Path.{◌≡◌, refl, ap, ◌∙◌}
use native.Mathlib.Nat.{pow-suc}
use native.Mathlib.Omega.{arith}
use lib.Dec.{ltb, leb}
use lib.Pow.{pow_pos}
use borrow.Author.Tests.{ltb-true, ltb-false, leb-true}
use Rattle.binary.specs.Word.{positive_part, negative_part, within}
use Rattle.binary.proofs.Implies.{and_l, and_r}

pub positive_lt : (bits w : ℕ) → positive_part bits w < 2 ^ (bits - 1)
unfolding positive_part
positive_lt bits w = go (ltb w (2 ^ (bits - 1))) refl
  where
    go : (b : Bool) → ltb w (2 ^ (bits - 1)) ≡ b → cond b w 0 < 2 ^ (bits - 1)
    go true e = ltb-true w (2 ^ (bits - 1)) e
    go false e = pow_pos (bits - 1)

-- half of the words are below 0
pub double : (bits : ℕ) → 0 < bits → 2 ^ bits ≡ 2 ^ (bits - 1) * 2
double bits h = let e : bits ≡ suc (bits - 1) = omega arith in ap (λ (n : ℕ). 2 ^ n) e ∙ pow-suc 2 (bits - 1)

pub negative_le : (bits w : ℕ) → 0 < bits → negative_part bits w ≤ 2 ^ (bits - 1)
unfolding negative_part
negative_le bits w h = go (ltb w (2 ^ (bits - 1))) refl
  where
    go : (b : Bool) → ltb w (2 ^ (bits - 1)) ≡ b → cond b 0 (2 ^ bits - w) ≤ 2 ^ (bits - 1)
    go true e = zero-le
    go false e = omega (arith, ltb-false w (2 ^ (bits - 1)) e, double bits h)

pub within_positive : (bits n w : ℕ) → within bits n w ≡ true → positive_part bits w ≤ n
unfolding within
within_positive bits n w e = leb-true _ _ (and_l (leb (positive_part bits w) n) (leb (negative_part bits w) n) e)

pub within_negative : (bits n w : ℕ) → within bits n w ≡ true → negative_part bits w ≤ n
unfolding within
within_negative bits n w e = leb-true _ _ (and_r (leb (positive_part bits w) n) (leb (negative_part bits w) n) e)
