-- The prior fuel penalties, as a test over the rows settled so far.
use Prim.Native.Nat.{ℕ, zero, suc}
use mathlib.Core.Bool.{Bool, true, false, cond, ◌&&◌, ◌||◌}
use mathlib.Core.Path.{◌≡◌, refl, ap, ap₂, ◌∙◌}
use lib.Dec.{ltb, eqb}
use borrow.Author.Tests.{eqb-true}
use Rattle.binary.specs.Bounded.{any_to}
use Rattle.tariff.specs.SanctionRules.{fuel_day_counts}
use Rattle.casefile.specs.Case.{Case}
use Rattle.casefile.specs.Lookup.{group_of}
use Rattle.sanctions.specs.Penalties.{withheld_penalty_of, dispatch_penalty_of, fuel_multiplier_after, fuel_penalty_under, lowest_unit, fuel_stands, prior_fuel, past_fuel, fuel_multiplier, fuel_penalty_of, penalty, counts_fuel_here}

by_kind : (k x y z : ℕ) → k ≡ 3 → cond (eqb k 1) x (cond (eqb k 2) y z) ≡ z
by_kind k x y z e = rw e

-- the penalty on a row of kind 3
fuel_row_is : (c : Case) (n : ℕ) → c.events.kind n ≡ 3 → penalty c n ≡ cond (lowest_unit c n) (fuel_penalty_of c n) 0
unfolding penalty
fuel_row_is c n k =
    by_kind (c.events.kind n) (withheld_penalty_of c n) (dispatch_penalty_of c n) _ k
    ∙ ap (λ (x : ℕ). cond (eqb x 3 && lowest_unit c n) (fuel_penalty_of c n) 0) k

swap : (l x y : Bool) → ((x && y) && l) ≡ (l && true && x && y)
swap true true true = refl
swap true true false = refl
swap true false y = refl
swap false true true = refl
swap false true false = refl
swap false false y = refl

none : (l x y : Bool) → false ≡ (l && false && x && y)
none true x y = refl
none false x y = refl

-- a penalty above 0 stands on the lowest unit's row alone
stands : (c : Case) (n d g : ℕ) → (fuel_stands c n d g && ltb 0 (fuel_penalty_of c n)) ≡ counts_fuel_here c d g n
unfolding fuel_stands counts_fuel_here
stands c n d g =
    go (eqb (c.events.kind n) 3) refl (lowest_unit c n) (eqb (group_of c n) g) (fuel_day_counts d (c.events.day n)) (fuel_row_is c n)
  where
    go : (k : Bool) → eqb (c.events.kind n) 3 ≡ k → (w x y : Bool)
        → (c.events.kind n ≡ 3 → penalty c n ≡ cond w (fuel_penalty_of c n) 0)
        → ((k && w && x && y) && ltb 0 (fuel_penalty_of c n)) ≡ (ltb 0 (penalty c n) && k && x && y)
    go true e true x y f = rw (f (eqb-true _ 3 e)) (swap (ltb 0 (fuel_penalty_of c n)) x y)
    go true e false x y f = rw (f (eqb-true _ 3 e))
    go false e w x y f = none (ltb 0 (penalty c n)) x y

row : (c : Case) (n d g : ℕ)
    → (fuel_stands c n d g
    && ltb 0
    (fuel_penalty_under c n
    (fuel_multiplier_after
    (prior_fuel c n (c.events.day n) (group_of c n) || past_fuel c (c.events.day n) (group_of c n)))))
    ≡ counts_fuel_here c d g n
unfolding fuel_penalty_of fuel_multiplier
row c n d g = stands c n d g

pub prior_rows : (c : Case) (n d g : ℕ) → prior_fuel c n d g ≡ any_to n (counts_fuel_here c d g)
unfolding prior_fuel any_to
prior_rows c zero d g = refl
prior_rows c (suc n) d g = ap₂ ◌||◌ (prior_rows c n d g) (row c n d g)
