-- Lists by index: a list of figures, stretches one after the other, and the first index that passes a test.
use Rattle.std.specs.Prelude.{ℕ, zero, suc, ◌<◌, Bool, cond, List, [], ◌∷◌, ◌++◌, ◌≡◌, get_or}

-- f 0, .. , f (n - 1)
unfoldable pub list_to : {A : Type 0} → ℕ → (ℕ → A) → List A
list_to zero f = []
list_to (suc n) f = list_to n f ++ (f n ∷ [])

-- the stretches f 0, .. , f (n - 1), one after the other
unfoldable pub join_to : ℕ → (ℕ → List ℕ) → List ℕ
join_to zero f = []
join_to (suc n) f = join_to n f ++ f n

-- the first of j, j + 1, .. , j + k - 1 that passes p, or j + k where none does
unfoldable pub first_from : (k j : ℕ) (p : ℕ → Bool) → ℕ
first_from zero j p = j
first_from (suc k) j p = cond (p j) j (first_from k (suc j) p)

-- every element is a byte
abbrev pub Bytes : List ℕ → Type 0
Bytes s = (k : ℕ) → get_or s k 0 < 256

-- the first n elements are f 0, .. , f (n - 1)
abbrev pub Holds : (n : ℕ) → List ℕ → (ℕ → ℕ) → Type 0
Holds n l f = (i : ℕ) → i < n → get_or l i 0 ≡ f i
