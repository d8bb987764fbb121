-- A unit or a reference that is there stands at the place that is found.
use Prim.Native.Nat.{ℕ, zero, suc, ◌<◌}
use mathlib.Core.Bool.{Bool, true, false}
use mathlib.Core.Path.{◌≡◌, refl}
use native.Mathlib.Omega.{arith}
use borrow.Author.Tests.{eqb-true}
use Rattle.binary.specs.Bounded.{any_to, last_to}
use Rattle.binary.proofs.Implies.{or_l, or_r}
use Rattle.binary.proofs.BoundedLaws.{all_at, last_bound, last_holds}
use Rattle.casefile.specs.Case.{Units, References, Events}
use Rattle.casefile.specs.Lookup.{is_unit, is_listed, place_of, has_reference, level_of}
use Rattle.std.proofs.Common.{is_some, Some, None, cond}
use Rattle.limits.specs.Refusal.{event_listed, events_listed}
use Rattle.limits.specs.StageLookup.{place_in, level_in}

-- where some place passes, the last is below the bound
pub last_below : (n : ℕ) (p : ℕ → Bool) → any_to n p ≡ true → last_to n p < n
unfolding any_to
last_below zero p h = absurd (let z : ◌≡◌ {A = ℕ} 0 1 = cc in omega arith)
last_below (suc n) p h = last_bound (suc n) p (omega arith)

-- where none passes, the last is 0
last_nowhere : (n : ℕ) (p : ℕ → Bool) → any_to n p ≡ false → last_to n p ≡ 0
unfolding any_to last_to
last_nowhere zero p h = refl
last_nowhere (suc n) p h = rw (or_r (any_to n p) (p n) h) (last_nowhere n p (or_l (any_to n p) (p n) h))

pub listed_place : (u : Units) (number : ℕ) → is_listed u number ≡ true → place_of u number < u.count
unfolding is_listed place_of
listed_place u number h = last_below u.count (is_unit u number) h

pub listed_number : (u : Units) (number : ℕ) → is_listed u number ≡ true → u.number (place_of u number) ≡ number
unfolding is_listed place_of is_unit
listed_number u number h = eqb-true _ _ (last_holds u.count (is_unit u number) h)

pub unlisted_place : (u : Units) (number : ℕ) → is_listed u number ≡ false → place_of u number ≡ 0
unfolding is_listed place_of
unlisted_place u number h = last_nowhere u.count (is_unit u number) h

-- what stands where something is found
found_there : (b : Bool) (y x : ℕ) → Some x ≡ cond b (Some y) None → (b ≡ true) × (x ≡ y)
found_there true y x h = (refl, cc)
found_there false y x h = (cc, cc)

found_missing : (b : Bool) (y : ℕ) → None ≡ cond b (Some y) None → b ≡ false
found_missing true y h = cc
found_missing false y h = refl

-- the unit of an event, where every event's is listed
pub events_place : (u : Units) (e : Events) (i : ℕ) → events_listed u e ≡ true → i < e.count → place_of u (e.unit i) < u.count
unfolding events_listed event_listed
events_place u e i h l = listed_place u (e.unit i) (all_at e.count i (event_listed u e) l h)

-- a place is found where the number is listed
pub is_placed : (u : Units) (number : ℕ) → is_some (place_in u number) ≡ is_listed u number
unfolding place_in
is_placed u number = go (is_listed u number)
  where
    go : (b : Bool) → is_some (cond b (Some (place_of u number)) None) ≡ b
    go true = refl
    go false = refl

-- a place that is found is its unit's, and none is found where the number is not listed
pub place_there : (u : Units) (number at : ℕ) → Some at ≡ place_in u number → (is_listed u number ≡ true) × (at ≡ place_of u number)
unfolding place_in
place_there u number at h = found_there (is_listed u number) (place_of u number) at h

pub place_missing : (u : Units) (number : ℕ) → None ≡ place_in u number → is_listed u number ≡ false
unfolding place_in
place_missing u number h = found_missing (is_listed u number) (place_of u number) h

-- and a level that is found
pub level_there : (r : References) (unit component level : ℕ) → Some level ≡ level_in r unit component
    → (has_reference r unit component ≡ true) × (level ≡ level_of r unit component)
unfolding level_in
level_there r unit component level h = found_there (has_reference r unit component) (level_of r unit component) level h

pub level_missing : (r : References) (unit component : ℕ) → None ≡ level_in r unit component → has_reference r unit component ≡ false
unfolding level_in
level_missing r unit component h = found_missing (has_reference r unit component) (level_of r unit component) h
