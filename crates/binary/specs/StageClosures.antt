-- What a closure that is asked about the numbers below a bound has to meet, and what it computes.
use Rattle.std.specs.Prelude.{ℕ, ◌<◌, ◌≤◌, ◌≡◌}

-- it may be called at each
abbrev pub CallableTo : ℕ → (ℕ → Type 0) → Type 0
CallableTo n pre = (i : ℕ) → i < n → pre i

-- its answer at each is f's
abbrev pub Computes : {A : Type 0} → ℕ → (ℕ → A → Type 0) → (ℕ → A) → Type 0
Computes {A} n post f = (i : ℕ) (r : A) → i < n → post i r → r ≡ f i

-- no answer is above `most`
abbrev pub StaysWithin : ℕ → (ℕ → ℕ → Type 0) → ℕ → Type 0
StaysWithin n post most = (i r : ℕ) → i < n → post i r → r ≤ most
