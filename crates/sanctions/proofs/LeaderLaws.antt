-- Events together are led by the first of them; for kind 3 that is the one of the lowest unit, by the order of limit 11.
use Prim.Native.Nat.{ℕ, ◌<◌}
use mathlib.Core.Bool.{Bool, true, false, not, ◌&&◌}
use mathlib.Core.Logic.{⊎_elim}
use mathlib.Core.Path.{◌≡◌, refl, sym, ap, subst, ◌∙◌}
use native.Mathlib.Nat.{eq-or-lt_of_le}
use native.Mathlib.Omega.{arith}
use lib.Dec.{ltb, eqb}
use borrow.Author.Tests.{eqb-true, eqb-false, lt-ltb, ltb-true, ltb-false}
use Rattle.binary.specs.Bounded.{any_to}
use Rattle.binary.proofs.BoundedLaws.{any_true, any_false}
use Rattle.casefile.specs.Case.{Case}
use Rattle.casefile.specs.Lookup.{together}
use Rattle.limits.specs.Refusal.{order_fine}
use Rattle.limits.proofs.SectionLaws.{units_in_order}
use Rattle.party_runs.specs.StageParties.{leader_of}
use Rattle.party_runs.proofs.PartyLaws.{SameParty, together_fields, together_sym, leader_le, leader_together, leader_first, leader_eqb}
use Rattle.sanctions.specs.Penalties.{lowest_unit}

-- a test does not both hold and fail
pub clash : {A : Type 0} (b : Bool) → b ≡ true → b ≡ false → A
clash true t f = absurd (let z : ◌≡◌ {A = ℕ} 0 1 = cc in omega arith)
clash false t f = absurd (let z : ◌≡◌ {A = ℕ} 0 1 = cc in omega arith)

not_any : (n i : ℕ) (p : ℕ → Bool) → i < n → p i ≡ true → not (any_to n p) ≡ false
not_any n i p l e = rw (any_true n i p l e)

-- event i of kind 3 leads the events together with it, where it leads itself
pub leads : (c : Case) (i j : ℕ) → c.events.kind i ≡ 3 → leader_of c i ≡ i → eqb (leader_of c j) i ≡ together c i j
leads c i j k e = subst (λ (x : ℕ). eqb (leader_of c j) x ≡ together c i j) e (leader_eqb c i j (λ q. omega arith))

module _ (c : Case) (o : order_fine c.events ≡ true) (bare : (i : ℕ) → i < c.events.count → c.events.kind i ≡ 3 → c.events.component i ≡ 0) where
  -- of two events of a party-day the earlier has the lower unit
  earlier_lower : (i j : ℕ) → c.events.kind i ≡ 3 → SameParty c i j → j < i → i < c.events.count → c.events.unit j < c.events.unit i
  earlier_lower i j k s l m =
      let r = units_in_order c.events o j i l m s.day s.kind s.market in
      let x = bare i m k in
      let y = bare j (omega arith) (s.kind ∙ k) in
      omega arith

  -- the fuel penalty stands on the row of the lowest unit: the leader's
  pub lowest_leader : (i : ℕ) → i < c.events.count → c.events.kind i ≡ 3 → lowest_unit c i ≡ eqb (leader_of c i) i
  unfolding lowest_unit
  lowest_leader i m k = go (eqb (leader_of c i) i) refl
    where
      lower : ℕ → Bool
      lower j = together c i j && ltb (c.events.unit j) (c.events.unit i)

      none : leader_of c i ≡ i → (j : ℕ) → j < c.events.count → lower j ≡ false
      none e j n = pick (together c i j) refl (ltb (c.events.unit j) (c.events.unit i)) refl
        where
          pick : (t : Bool) → together c i j ≡ t → (u : Bool) → ltb (c.events.unit j) (c.events.unit i) ≡ u → (t && u) ≡ false
          pick false p u q = refl
          pick true p false q = refl
          pick true p true q = absurd (order (together_fields c i j p) (ltb-true _ _ q) (ltb j i) refl)
            where
              order : SameParty c i j → c.events.unit j < c.events.unit i → (b : Bool) → ltb j i ≡ b → ⊥
              order s u true b =
                  let l : j < leader_of c i = rw e (ltb-true j i b) in
                  clash (together c i j) p (leader_first c i j (λ q. omega arith) l)
              order s u false b =
                  ⊎_elim
                  (λ (x : i ≡ j). let y = ap c.events.unit x in omega arith)
                  (λ (x : i < j).
                  let y = earlier_lower j i (s.kind ∙ k) (together_fields c j i (sym (together_sym c i j) ∙ p)) x n in
                  omega arith)
                  (eq-or-lt_of_le (ltb-false j i b))

      go : (b : Bool) → eqb (leader_of c i) i ≡ b → lowest_unit c i ≡ b
      go true e = rw (any_false c.events.count lower (none (eqb-true _ i e)))
      go false e =
          let x = eqb-false _ i e in
          let l : leader_of c i < i = omega (arith, leader_le c i) in
          let s = together_fields c i _ (leader_together c i) in
          let u = earlier_lower i (leader_of c i) k s l m in
          not_any c.events.count (leader_of c i) _ (omega arith) (rw (leader_together c i) (lt-ltb _ _ u))
