-- What a stage reads in the tables of the stages before it is the figure of the case.
use Prim.Native.Nat.{ℕ, zero, suc, ◌+◌, ◌-◌, ◌≤◌, ◌<◌}
use mathlib.Core.Bool.{Bool, true, false, cond, ◌&&◌}
use mathlib.Core.List.{List}
use mathlib.Core.Path.{◌≡◌, refl, sym, ap, ap₂, ◌∙◌}
use native.Mathlib.Nat.{le_refl, sub-zero}
use native.Mathlib.Numerals.{add-one}
use native.Mathlib.Omega.{arith}
use borrow.Author.Tests.{ne_eqb}
use lib.Dec.{eqb}
use lib.ListN.{get_or}
use Rattle.binary.specs.Lists.{first_from, Holds}
use Rattle.binary.proofs.ListLaws.{from_next}
use Rattle.casefile.specs.declared.layout.Format.{Format}
use Rattle.casefile.specs.Case.{Events}
use Rattle.casefile.specs.Decode.{units_in, events_in, case_in}
use Rattle.casefile.specs.Lookup.{unit_of, group_of, together}
use Rattle.limits.specs.Refusal.{events_listed}
use Rattle.limits.proofs.LookupLaws.{events_place}
use Rattle.party_runs.specs.StageParties.{same_run, RunStart, leader_of, same_group, leader_in}

-- ---- places and groups

units_group : (format : Format) (u r p e : List ℕ) (k : ℕ) → (units_in format u).group k ≡ (case_in format u r p e).units.group k
unfolding case_in
units_group format u r p e k = refl

module _ (format : Format) (u r p e places : List ℕ) (i : ℕ) (l : i < (events_in format e).count) where
  place_lt : events_listed (units_in format u) (events_in format e) ≡ true → unit_of (case_in format u r p e) i < (units_in format u).count
  unfolding unit_of case_in
  place_lt h = events_place (units_in format u) (events_in format e) i h l

  pub place_in : events_listed (units_in format u) (events_in format e) ≡ true → Holds (events_in format e).count places (unit_of (case_in format u r p e))
      → get_or places i 0 < (units_in format u).count
  place_in h t = rw (t i l) (place_lt h)

  pub group_in : (g : ℕ) → Holds (events_in format e).count places (unit_of (case_in format u r p e)) → g ≡ (units_in format u).group (get_or places i 0)
      → g ≡ group_of (case_in format u r p e) i
  unfolding group_of
  group_in g t q = q ∙ ap (units_in format u).group (t i l) ∙ units_group format u r p e (unit_of (case_in format u r p e) i)

-- ---- leaders

-- a search by two tests that agree on what it passes
from_same : (k j : ℕ) (p q : ℕ → Bool) → ((m : ℕ) → j ≤ m → m < j + k → p m ≡ q m) → first_from k j p ≡ first_from k j q
unfolding first_from
from_same zero j p q h = refl
from_same (suc k) j p q h =
    ap₂ (λ (b : Bool) (x : ℕ). cond b j x) (h j (le_refl j) (omega arith)) (from_same k (suc j) p q (λ m l r. h m (omega arith) (omega arith)))

-- the search may begin after those that fail
skipped : (s i : ℕ) (p : ℕ → Bool) → s ≤ i → ((j : ℕ) → j < s → p j ≡ false) → first_from (i - s) s p ≡ first_from i 0 p
skipped zero i p l f = rw sub-zero
skipped (suc s) i p l f =
    rw add-one at (from_next i s p (first_from i 0 p) (skipped s i p (omega arith) (λ j k. f j (omega arith))) (omega arith) (f s (omega arith)))

-- the leader is looked for in the run alone
pub leader_from : (e : Events) (groups : List ℕ) (i start x : ℕ) → RunStart e i start → (e.kind i ≡ 4 → ⊥)
    → x ≡ first_from (i - start) start (same_group groups i) → x ≡ leader_in e groups i
unfolding leader_in
leader_from e groups i start x s n q =
    q
    ∙ from_same (i - start) start _ _ (λ m l r. let t = s.since m l (let k = s.reached in omega arith) in rw t)
    ∙ skipped start i (λ j. same_run e i j && same_group groups i j) s.reached (λ j l. rw (s.earlier j l))
    ∙ sym (ap (λ (b : Bool). cond b i (first_from i 0 (λ j. same_run e i j && same_group groups i j))) (ne_eqb (e.kind i) 4 n))

pub leader_bid : (e : Events) (groups : List ℕ) (i : ℕ) → e.kind i ≡ 4 → i ≡ leader_in e groups i
unfolding leader_in
leader_bid e groups i k = rw k

-- and the groups of the table are those of the case
pub leader_in_is : (format : Format) (u r p e groups : List ℕ) (n i : ℕ) → Holds n groups (group_of (case_in format u r p e)) → i < n
    → leader_in (events_in format e) groups i ≡ leader_of (case_in format u r p e) i
unfolding leader_in leader_of same_group same_run together case_in
leader_in_is format u r p e groups n i t l =
    ap (λ (x : ℕ). cond (eqb ((events_in format e).kind i) 4) i x) (from_same i 0 _ _ (λ j a b. rw (t j (omega arith), t i l)))
