use Prim.Native.Nat.{ℕ}
use mathlib.Core.Logic.{◌⊎◌, ⊎_elim}
use mathlib.Core.Path.{◌≡◌}
use borrow.Author.Rules.{rules}
use Rattle.casefile.proofs.records.number_at.Goals as goal

four : {w : ℕ} → (w ≡ 2) ⊎ (w ≡ 4) → (w ≡ 2 → ⊥) → w ≡ 4
four either other = ⊎_elim (λ two. absurd (other two)) (λ e. e) either

pub returns-then-width-eq-OLD_NUMBER_WIDTH : goal.returns-then-width-eq-OLD_NUMBER_WIDTH
returns-then-width-eq-OLD_NUMBER_WIDTH c = rw (c.from.ensures, c.load.ensures, c.if-width-eq-OLD_NUMBER_WIDTH.true)

pub load-requires-2 : goal.load-requires-2
load-requires-2 c = let e = four c.requires.1 c.if-width-eq-OLD_NUMBER_WIDTH.false in search rules

pub returns : goal.returns
returns c = rw (c.load-2.ensures, four c.requires.1 c.if-width-eq-OLD_NUMBER_WIDTH.false)
