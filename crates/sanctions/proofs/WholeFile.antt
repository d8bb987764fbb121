-- A prior fuel penalty is looked for on the rows before the event. Days rise, so that the rows from it on hold none that counts:
-- M is that of the whole file.
use Prim.Native.Nat.{ℕ, zero, suc, ◌+◌, ◌-◌, ◌≤◌, ◌<◌}
use mathlib.Core.Bool.{false, ◌&&◌, and-false, or-false}
use mathlib.Core.List.{List}
use mathlib.Core.Logic.{⊎_elim}
use mathlib.Core.Path.{◌≡◌, refl, sym, ◌∙◌, ap}
use native.Mathlib.Nat.{add-zero, add-suc, le_refl, eq-or-lt_of_le}
use native.Mathlib.Omega.{arith}
use lib.Dec.{eqb}
use borrow.Author.Tests.{le-ltb}
use Rattle.binary.specs.Bounded.{any_to}
use Rattle.binary.specs.Lists.{Bytes}
use Rattle.tariff.specs.SanctionRules.{fuel_day_counts}
use Rattle.casefile.specs.Case.{Case}
use Rattle.casefile.specs.Decode.{decode}
use Rattle.casefile.specs.Lookup.{group_of}
use Rattle.limits.specs.Refusal.{refusal}
use Rattle.limits.proofs.AcceptedLaws as case
use Rattle.limits.proofs.RunLaws.{unit_lt}
use Rattle.sanctions.specs.Penalties.{lowest_unit, fuel_stands, prior_fuel, fuel_multiplier, multiplier, counts_fuel_here, fuel_multiplier_here, MultiplierByFile}
use Rattle.sanctions.proofs.PriorLaws.{prior_rows}

-- a day that is not before d never counts
not_later : (c : Case) (j d g : ℕ) → d ≤ c.events.day j → fuel_stands c j d g ≡ false
unfolding fuel_stands fuel_day_counts
not_later c j d g b =
    rw (le-ltb (c.events.day j) d b) (and-false (eqb (c.events.kind j) 3 && lowest_unit c j && eqb (group_of c j) g))

no_further : (c : Case) (i k d g : ℕ) → ((j : ℕ) → i ≤ j → j < i + k → d ≤ c.events.day j)
    → prior_fuel c i d g ≡ prior_fuel c (i + k) d g
unfolding prior_fuel
no_further c i zero d g rise = rw (add-zero i) refl
no_further c i (suc k) d g rise =
    rw (add-suc i k, not_later c (i + k) d g (rise (i + k) (omega arith) (omega arith)))
    (no_further c i k d g (λ j a b. rise j a (omega arith)) ∙ sym (or-false (prior_fuel c (i + k) d g)))

whole_file : (c : Case) (i g : ℕ) → i ≤ c.events.count
    → ((j : ℕ) → i ≤ j → j < c.events.count → c.events.day i ≤ c.events.day j)
    → prior_fuel c i (c.events.day i) g ≡ prior_fuel c c.events.count (c.events.day i) g
whole_file c i g l rise =
    no_further c i (c.events.count - i) (c.events.day i) g (λ j a b. rise j a (omega arith))
    ∙ ap (λ (n : ℕ). prior_fuel c n (c.events.day i) g) (omega arith)

-- ---- an accepted case

module _ (f k : List ℕ) (n : ℕ) (b : Bytes f) (h : refusal f k n ≡ 0) where
  days_rise : (i j : ℕ) → i ≤ j → j < (decode f).events.count → (decode f).events.day i ≤ (decode f).events.day j
  days_rise i j l m = ⊎_elim (λ e. rw e (le_refl _)) (λ lt. case.days_in_order f k n h i j lt m (unit_lt f k n b h j m)) (eq-or-lt_of_le l)

  by_rows : (i g : ℕ) → i < (decode f).events.count
      → prior_fuel (decode f) i ((decode f).events.day i) g
      ≡ any_to (decode f).events.count (counts_fuel_here (decode f) ((decode f).events.day i) g)
  by_rows i g l =
      whole_file (decode f) i g (omega arith) (λ j a m. days_rise i j a m) ∙ prior_rows (decode f) (decode f).events.count ((decode f).events.day i) g

pub multiplier_by_file : MultiplierByFile
unfolding multiplier fuel_multiplier fuel_multiplier_here
multiplier_by_file f k n i b h l kind lowest = rw (kind, lowest, by_rows f k n b h i (group_of (decode f) i) l) refl
