-- The ladder: in range exactly one of its cases holds, and more instances never give a smaller multiplier.
use Prim.Native.Nat.{ℕ, ◌≤◌, ◌<◌}
use mathlib.Core.Bool.{Bool, true, false, cond, ◌&&◌}
use mathlib.Core.Logic.{inl, inr}
use mathlib.Core.Path.{◌≡◌, refl, sym, ◌∙◌}
use native.Mathlib.Decide.{dec_lt}
use native.Mathlib.Nat.{le_refl}
use native.Mathlib.Omega.{arith}
use lib.Dec.{leb, eqb}
use borrow.Author.Tests.{le-leb, lt-leb, ne_eqb}
use Rattle.tariff.specs.Ladder.{FirstInstance, SecondInstance, ThirdInstance, FourthInstance, OneCase, fourth_case_first, LadderAsPrinted}
use Rattle.tariff.specs.SanctionRules.{ladder}

-- ---- what each case gives

first_gives : (n k : ℕ) → FirstInstance n → ladder n k ≡ 2
unfolding ladder
first_gives n k h = rw h refl

second_gives : (n k : ℕ) → SecondInstance n → ladder n k ≡ 2
unfolding ladder
second_gives n k h = rw h refl

third_gives : (n k : ℕ) → ThirdInstance n k → ladder n k ≡ 4
unfolding ladder
third_gives n k h = rw (ne_eqb n 1 (λ e. omega arith), ne_eqb n 2 (λ e. omega arith), le-leb 3 n h.0, le-leb k 3 h.1) refl

-- N3 1 and 2 are taken by the cases before
fourth_gives : (n k : ℕ) → 3 ≤ n → FourthInstance k → ladder n k ≡ 6
unfolding ladder
fourth_gives n k l h =
    rw (ne_eqb n 1 (λ e. omega arith), ne_eqb n 2 (λ e. omega arith), le-leb 3 n l, lt-leb k 3 h, le-leb 4 k h) refl

-- whatever N3 and N2 are, 0, 2, 4 or 6 halves
pub ladder_halves : (P : ℕ → Type 0) → P 0 → P 2 → P 4 → P 6 → (n k : ℕ) → P (ladder n k)
unfolding ladder
ladder_halves P none two four six n k = go (eqb n 1) (eqb n 2) (leb 3 n && leb k 3) (leb 4 k)
  where
    go : (a b c d : Bool) → P (cond a 2 (cond b 2 (cond c 4 (cond d 6 0))))
    go true b c d = two
    go false true c d = two
    go false false true d = four
    go false false false true = six
    go false false false false = none

-- ---- exactly one of them holds

one_case : (n k : ℕ) → 1 ≤ k → k ≤ n → OneCase n k
one_case n k f g = go (dec_lt n 2) (dec_lt n 3) (dec_lt 3 k)
  where
    go : Dec (n < 2) → Dec (n < 3) → Dec (3 < k) → OneCase n k
    go (yes a) b c = inl (omega arith, λ e. omega arith, λ h. omega arith, λ h. omega arith)
    go (no a) (yes b) c = inr (inl (λ e. omega arith, omega arith, λ h. omega arith, λ h. omega arith))
    go (no a) (no b) (no c) = inr (inr (inl (λ e. omega arith, λ e. omega arith, (omega arith, omega arith), λ h. omega arith)))
    go (no a) (no b) (yes c) = inr (inr (inr (λ e. omega arith, λ e. omega arith, λ h. omega arith, c)))

pub ladder_as_printed : LadderAsPrinted
unfolding fourth_case_first
ladder_as_printed n k r =
    let one : OneCase n k = one_case n k r.0 r.1 in
    record {
      one = one;
      first = first_gives n k;
      second = second_gives n k;
      third = third_gives n k;
      fourth = λ h. fourth_gives n k (omega arith) h;
      same = same one;
    }
  where
    same : OneCase n k → ladder n k ≡ fourth_case_first n k
    same (inl h) = first_gives n k h.0 ∙ sym (rw (lt-leb 4 k (omega arith), lt-leb 3 n (omega arith)) refl)
    same (inr (inl h)) = second_gives n k h.1 ∙ sym (rw (lt-leb 4 k (omega arith), lt-leb 3 n (omega arith)) refl)
    same (inr (inr (inl h))) = third_gives n k h.2 ∙ sym (rw (lt-leb 4 k (omega arith), le-leb 3 n h.2.0) refl)
    same (inr (inr (inr h))) = fourth_gives n k (omega arith) h.3 ∙ sym (rw (le-leb 4 k h.3) refl)

-- ---- monotone from N3 1 on: N3 0 with N2 4 gives 6, and N3 1 with N2 4 gives 2

from_third : (n k : ℕ) → 3 ≤ n → 4 ≤ ladder n k
from_third n k l = go (dec_lt 3 k)
  where
    go : Dec (3 < k) → 4 ≤ ladder n k
    go (yes h) = omega (arith, fourth_gives n k l h)
    go (no h) = omega (arith, third_gives n k (l, omega arith))

from_first : (n k : ℕ) → 1 ≤ n → 2 ≤ ladder n k
from_first n k l = go (dec_lt n 2) (dec_lt n 3)
  where
    go : Dec (n < 2) → Dec (n < 3) → 2 ≤ ladder n k
    go (yes a) b = omega (arith, first_gives n k (omega arith))
    go (no a) (yes b) = omega (arith, second_gives n k (omega arith))
    go (no a) (no b) = omega (arith, from_third n k (omega arith))

pub ladder_mono : {n n' k k' : ℕ} → 1 ≤ n → n ≤ n' → k ≤ k' → ladder n k ≤ ladder n' k'
ladder_mono {n} {n'} {k} {k'} l f g = go (dec_lt n 2) (dec_lt n 3) (dec_lt 3 k)
  where
    go : Dec (n < 2) → Dec (n < 3) → Dec (3 < k) → ladder n k ≤ ladder n' k'
    go (yes a) b c = rw (first_gives n k (omega arith)) (from_first n' k' (omega arith))
    go (no a) (yes b) c = rw (second_gives n k (omega arith)) (from_first n' k' (omega arith))
    go (no a) (no b) (no c) = rw (third_gives n k (omega arith, omega arith)) (from_third n' k' (omega arith))
    go (no a) (no b) (yes c) = rw (fourth_gives n k (omega arith) c, fourth_gives n' k' (omega arith) (omega arith)) (le_refl 6)
