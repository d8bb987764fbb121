-- A table whose first entry is 0 and whose every gap is its month's length has the month starts.
use Prim.Native.Nat.{ℕ, zero, suc, ◌+◌, ◌<◌}
use mathlib.Core.Bool.{Bool, true, ◌&&◌}
use mathlib.Core.List.{List, [], ◌∷◌}
use mathlib.Core.Path.{◌≡◌, ◌∙◌, sym}
use native.Mathlib.Nat.{add-zero, zero-add, add-suc, suc-add, le_of_suc-le-suc, not-suc-le-zero}
use lib.Dec.{eqb}
use lib.ListN.{length, get_or}
use borrow.Author.Tests.{eqb-true}
use Rattle.binary.proofs.Implies.{and_l, and_r}
use Rattle.calendar.specs.Months.{month_start, month_length}
use Rattle.calendar.proofs.MonthLaws.{start_first, start_more}

-- from entry k, which is x, on: each next entry is its month's length further
abbrev pub gaps : (k x : ℕ) → List ℕ → Bool
gaps k x [] = true
gaps k x (y ∷ ys) = eqb y (x + month_length k) && gaps (suc k) y ys

abbrev pub is_calendar : List ℕ → Bool
is_calendar [] = true
is_calendar (x ∷ xs) = eqb x 0 && gaps 0 x xs

from : (xs : List ℕ) (k x : ℕ) → gaps k x xs ≡ true → x ≡ month_start k → (i : ℕ) → i < length (x ∷ xs) → get_or (x ∷ xs) i 0 ≡ month_start (k + i)
from xs k x t e zero h = rw add-zero e
from [] k x t e (suc i) h = absurd (not-suc-le-zero (le_of_suc-le-suc h))
from (y ∷ ys) k x t e (suc i) h =
    let here : y ≡ x + month_length k = eqb-true y (x + month_length k) (and_l (eqb y (x + month_length k)) (gaps (suc k) y ys) t) in
    rw (add-suc, ← suc-add)
    (from ys (suc k) y (and_r (eqb y (x + month_length k)) (gaps (suc k) y ys) t) (here ∙ rw e (sym (start_more k))) i (le_of_suc-le-suc h))

-- the test of the whole table, computed once, says what every entry is
pub calendar_is : (xs : List ℕ) (i : ℕ) → is_calendar xs ≡ true → i < length xs → get_or xs i 0 ≡ month_start i
calendar_is [] i t h = absurd (not-suc-le-zero h)
calendar_is (x ∷ xs) i t h =
    rw zero-add at (from xs 0 x (and_r (eqb x 0) (gaps 0 x xs) t) (eqb-true x 0 (and_l (eqb x 0) (gaps 0 x xs) t) ∙ sym start_first) i h)
