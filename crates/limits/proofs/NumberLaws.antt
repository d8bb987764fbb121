-- The answer that a refusal's number stands for has that number.
use Prim.Native.Nat.{ℕ}
use mathlib.Core.Bool.{Bool, true, false}
use mathlib.Core.List.{List}
use mathlib.Core.Path.{◌≡◌, refl, sym}
use borrow.Author.Tests.{eqb-true, eqb-false}
use lib.Dec.{eqb}
use Rattle.limits.specs.Numbers.{refusal_number, refusal_of, number_in, answered}
use Rattle.limits.specs.Refusal.{refusal}
use Rattle.limits.proofs.RefusalLaws.{number_stands}

told : (n : ℕ) (b : Bool) → eqb n 0 ≡ b → ((n ≡ 0 → ⊥) → refusal_number (refusal_of n) ≡ n) → number_in (answered n) ≡ n
told n true e stands = rw e (sym (eqb-true n 0 e))
told n false e stands = rw e (stands (eqb-false n 0 e))

pub answered_number : (f k : List ℕ) (n : ℕ) → number_in (answered (refusal f k n)) ≡ refusal f k n
answered_number f k n = told (refusal f k n) (eqb (refusal f k n) 0) refl (λ ne. number_stands f k n ne)
