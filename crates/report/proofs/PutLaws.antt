-- Texts put one after another, and the digits of a number.
use Prim.Native.Nat.{ℕ, ◌+◌, ◌-◌, ◌/◌, ◌%◌, ◌≤◌, ◌<◌}
use mathlib.Core.List.{List, [], ◌∷◌, ◌++◌}
use mathlib.Core.Path.{◌≡◌, refl, sym, ap, subst, ◌∙◌}
use native.Mathlib.Omega.{arith}
use borrow.Author.Tests.{lt-ltb, le-ltb}
use lib.ListN.{length, length-append}
use lib.Seq.{length-sets}
use Rattle.case_rows.proofs.WriteLaws.{sets_append}
use Rattle.report.specs.Decimal.{field, decimal_to, decimal_to_none, decimal_to_one, decimal_to_more}
use Rattle.report.specs.StagePut.{Put}

pub put_size : {a b : List ℕ} {i j : ℕ} {s : List ℕ} → Put a i s b j → length b ≡ length a
put_size {a} {b} {i} {j} {s} p = ap length p.content ∙ length-sets a i s

pub same_text : {a b : List ℕ} {i j : ℕ} {s t : List ℕ} → s ≡ t → Put a i s b j → Put a i t b j
same_text {a} {b} {i} {j} e p = subst (λ (t : List ℕ). Put a i t b j) e p

pub nothing : (a : List ℕ) (i : ℕ) → Put a i [] a i
nothing a i = record { place = omega arith; content = refl }

-- one text after another
pub then : {a b c : List ℕ} {i j k : ℕ} {s t : List ℕ} → Put a i s b j → Put b j t c k → Put a i (s ++ t) c k
then {a} {b} {c} {i} {j} {k} {s} {t} p q =
    record {
      place = simp length-append (omega (arith, p.place, q.place));
      content = q.content ∙ rw (p.content, p.place) (sets_append s t a i);
    }

-- the three cases of a number's digits
pub no_digit : (a : List ℕ) (i n k : ℕ) → k ≡ 0 → Put a i (decimal_to k n) a i
no_digit a i n k e = same_text (sym (ap (λ (m : ℕ). decimal_to m n) e ∙ decimal_to_none n)) (nothing a i)

pub last_digit : {a b : List ℕ} {i j : ℕ} (n k : ℕ) → (k ≡ 0 → ⊥) → n < 10 → Put a i ((48 + n) ∷ []) b j → Put a i (decimal_to k n) b j
last_digit n k ne h p =
    let e : k ≡ k - 1 + 1 = omega arith in
    same_text (sym (ap (λ (m : ℕ). decimal_to m n) e ∙ decimal_to_one (k - 1) n (lt-ltb n 10 h))) p

pub more_digits : {a b c : List ℕ} {i j l : ℕ} (n k : ℕ) → (k ≡ 0 → ⊥) → 10 ≤ n
    → Put a i (decimal_to (k - 1) (n / 10)) b j → Put b j ((48 + n % 10) ∷ []) c l → Put a i (decimal_to k n) c l
more_digits n k ne h p q =
    let e : k ≡ k - 1 + 1 = omega arith in
    same_text (sym (ap (λ (m : ℕ). decimal_to m n) e ∙ decimal_to_more (k - 1) n (le-ltb n 10 h))) (then p q)

-- a number that was read, and what it stands for
pub read_as : {a b : List ℕ} {i j n m : ℕ} (end : ℕ) → n ≡ m → Put a i (field n end) b j → Put a i (field m end) b j
read_as end e p = same_text (ap (λ (k : ℕ). field k end) e) p
