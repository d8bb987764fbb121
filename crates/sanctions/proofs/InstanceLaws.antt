-- N3 and N2 count the instance itself, N3 is at least N2, and in an accepted case both are in the ladder's range.
use Prim.Native.Nat.{ℕ, ◌+◌, ◌≤◌}
use mathlib.Core.Bool.{true}
use mathlib.Core.Path.{◌≡◌}
use native.Mathlib.Nat.{le_refl, add-le-add}
use native.Mathlib.Omega.{arith}
use lib.Dec.{eqb}
use Rattle.binary.proofs.Implies.{◌⇒◌, mono, and_l}
use Rattle.binary.proofs.BoundedLaws.{count_mono, count_bound}
use Rattle.tariff.specs.Ladder.{InstancesInRange}
use Rattle.tariff.specs.SanctionRules.{period_counts, ladder}
use Rattle.tariff.proofs.LadderLaws.{ladder_as_printed}
use Rattle.tariff.proofs.RuleLaws.{period_wider}
use Rattle.casefile.specs.Case.{Case}
use Rattle.casefile.specs.Decode.{decode}
use Rattle.limits.proofs.AcceptedLaws as case
use Rattle.sanctions.specs.Penalties.{flagged_with_impact, is_instance, counts_here, counts_past, instances, n3, n2, withheld_multiplier, multiplier, InstancesByLadder}

module _ (c : Case) where
  pub instances_positive : (k i : ℕ) → 1 ≤ instances c k i
  unfolding instances
  instances_positive k i = omega arith

  -- N2 is at most N3
  instances_wider : (i : ℕ) → instances c 1 i ≤ instances c 2 i
  unfolding instances counts_here counts_past
  instances_wider i =
      add-le-add
      (add-le-add (le_refl 1) (count_mono i (counts_here c 1 i) (counts_here c 2 i) (λ j _. search (mono, wider))))
      (count_mono c.past.count _ _ (λ j _. search (mono, wider)))
    where
      wider : (p q : ℕ) → period_counts 1 p q ⇒ period_counts 2 p q
      wider = period_wider (omega arith)

  -- itself, the events before it and every past entry
  instances_bound : (k i : ℕ) → instances c k i ≤ 1 + i + c.past.count
  unfolding instances
  instances_bound k i =
      add-le-add (add-le-add (le_refl 1) (count_bound i (counts_here c k i))) (count_bound c.past.count _)

  is_withheld : (i : ℕ) → is_instance c i ≡ true → eqb (c.events.kind i) 1 ≡ true
  unfolding is_instance
  is_withheld i e = and_l (eqb (c.events.kind i) 1) (flagged_with_impact c i) e

  on_row : (i : ℕ) → is_instance c i ≡ true → multiplier c i ≡ ladder (n3 c i) (n2 c i)
  unfolding multiplier withheld_multiplier n3 n2
  on_row i e = rw (is_withheld i e, e)

pub instances_by_ladder : InstancesByLadder
unfolding n3 n2
instances_by_ladder f k n i h l e =
    let c : Case = decode f in
    let range : InstancesInRange (n3 c i) (n2 c i) =
    rw e (instances_positive c 1 i, instances_wider c i, omega (arith, instances_bound c 2 i, case.past_count f k n h, case.events_count f k n h)) in
    record { range = range; printed = ladder_as_printed _ _ range; on_row = on_row c i e }
