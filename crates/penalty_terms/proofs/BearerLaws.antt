-- The row that bears the penalty of a fuel event is its leader's.
use Prim.Native.Nat.{ℕ, ◌<◌}
use mathlib.Core.Bool.{Bool, true, false, ◌&&◌}
use mathlib.Core.List.{List}
use mathlib.Core.Path.{◌≡◌, sym, ap₂, ◌∙◌}
use native.Mathlib.Omega.{arith}
use lib.Dec.{eqb}
use borrow.Author.Tests.{eqb-true, eq-eqb}
use Rattle.binary.specs.Bounded.{any_to, last_to}
use Rattle.binary.proofs.Implies.{and_l, and_r}
use Rattle.binary.proofs.BoundedLaws.{any_true, last_holds}
use Rattle.casefile.specs.Case.{Case}
use Rattle.casefile.specs.Decode.{format_in, section_of, case_in, decode}
use Rattle.casefile.specs.Lookup.{together}
use Rattle.limits.specs.Refusal.{order_fine}
use Rattle.limits.specs.StageChecked.{AcceptedFile}
use Rattle.limits.proofs.LookupLaws.{last_below}
use Rattle.party_runs.specs.StageParties.{leader_of}
use Rattle.party_runs.proofs.PartyLaws.{together_fields, leader_le, leader_together, leader_same}
use Rattle.sanctions.specs.Penalties.{lowest_unit}
use Rattle.sanctions.specs.StageGiven.{Accepted}
use Rattle.sanctions.proofs.LeaderLaws.{lowest_leader}
use Rattle.sanctions.proofs.AcceptedFigures as sanctions
use Rattle.penalty_terms.specs.PenaltyWorking.{bearer}

-- of any other event its own
pub bearer_own : (c : Case) (i : ℕ) → eqb (c.events.kind i) 3 ≡ false → bearer c i ≡ i
unfolding bearer
bearer_own c i t = rw t

module _ (c : Case) (o : order_fine c.events ≡ true) (bare : (i : ℕ) → i < c.events.count → c.events.kind i ≡ 3 → c.events.component i ≡ 0)
    (i : ℕ) (l : i < c.events.count) (k : c.events.kind i ≡ 3) where
  abbrev bears : ℕ → Bool
  bears j = together c i j && lowest_unit c j

  no_bid : c.events.kind i ≡ 4 → ⊥
  no_bid q = omega arith

  pub leader_own : leader_of c (leader_of c i) ≡ leader_of c i
  leader_own = leader_same c i (leader_of c i) no_bid (leader_together c i)

  pub leader_kind : c.events.kind (leader_of c i) ≡ 3
  leader_kind = (together_fields c i (leader_of c i) (leader_together c i)).kind ∙ k

  pub leader_below : leader_of c i < c.events.count
  leader_below = omega (arith, leader_le c i)

  pub leader_lowest : lowest_unit c (leader_of c i) ≡ true
  leader_lowest = lowest_leader c o bare (leader_of c i) leader_below leader_kind ∙ eq-eqb _ _ leader_own

  one_bears : (j : ℕ) → j < c.events.count → bears j ≡ true → j ≡ leader_of c i
  one_bears j m b =
      let t = and_l (together c i j) (lowest_unit c j) b in
      let own : leader_of c j ≡ j =
      eqb-true _ _ (sym (lowest_leader c o bare j m ((together_fields c i j t).kind ∙ k)) ∙ and_r (together c i j) (lowest_unit c j) b) in
      sym own ∙ leader_same c i j no_bid t

  some_bears : any_to c.events.count bears ≡ true
  some_bears = any_true c.events.count (leader_of c i) bears leader_below (ap₂ ◌&&◌ (leader_together c i) leader_lowest)

  pub bearer_leader : bearer c i ≡ leader_of c i
  unfolding bearer
  bearer_leader =
      rw k
      (one_bears (last_to c.events.count bears) (last_below c.events.count bears some_bears)
      (last_holds c.events.count bears some_bears))

-- ---- an accepted case

module _ (f : List ℕ) (acc : AcceptedFile f) where
  accepted : Accepted (format_in f) (section_of f 0) (section_of f 2) (section_of f 3)
  accepted = sanctions.accepted f acc.correction acc.rows_length acc.accepted

  pub ordered : order_fine (decode f).events ≡ true
  unfolding decode case_in
  ordered = accepted.order_fine_holds

  pub bare : (i : ℕ) → i < (decode f).events.count → (decode f).events.kind i ≡ 3 → (decode f).events.component i ≡ 0
  unfolding decode case_in
  bare = sanctions.bare_component (format_in f) (section_of f 0) (section_of f 2) (section_of f 3) accepted
