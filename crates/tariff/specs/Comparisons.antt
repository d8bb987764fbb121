-- The comparisons of each conduct test together, in the order of docs/RULES.md, F (tariff 23.3.1), and the first that fails.
use Rattle.std.specs.Prelude.{ℕ, ◌+◌, Bool, false, cond, ◌&&◌, [], ◌∷◌, ◌≡◌, ltb, leb, eqb}
use Rattle.tariff.specs.declared.comparisons.Comparison.{Comparison}
use Rattle.tariff.specs.declared.comparisons.Comparisons.{Comparisons}
use Rattle.tariff.specs.Threshold.{threshold_of}
use Rattle.tariff.specs.ConductTests.{compared_where, compared, exceeds, increase, lower_comparison, constrained_comparison, percent_comparison, step_comparison, total_comparison, minimum_comparison, maximum_comparison, bid_test, capability_comparison, rate_comparison, unit_comparison, share_comparison, group_comparison, withheld_test, dispatch_test}

-- ---- four comparisons

-- the test has no such comparison
abbrev pub no_comparison : Comparison
no_comparison = compared_where false 0 0

-- the number of the first that fails, 0 where none does
unfoldable pub first_failed : (first second third fourth : Comparison) → ℕ
first_failed p q r s = cond (exceeds p) 1 (cond (exceeds q) 2 (cond (exceeds r) 3 (cond (exceeds s) 4 0)))

unfoldable pub comparisons_of : (first second third fourth : Comparison) → Comparisons
comparisons_of p q r s =
    record {
      taken = cond p.taken 1 0 + cond q.taken 2 0 + cond r.taken 4 0 + cond s.taken 8 0;
      failed = first_failed p q r s;
      left = p.left ∷ q.left ∷ r.left ∷ s.left ∷ [];
      right = p.right ∷ q.right ∷ r.right ∷ s.right ∷ [];
    }

-- ---- Bids

unfoldable pub first_bid_comparison : (component r a : ℕ) → Comparison
first_bid_comparison component r a =
    cond (leb component 2) (lower_comparison (threshold_of component) r a)
    (cond (eqb component 3) (percent_comparison (threshold_of component) r (increase r a))
    (cond (leb component 6) (step_comparison (threshold_of component) (increase r a))
    (cond (eqb component 7) (minimum_comparison (threshold_of component) r a)
    (cond (eqb component 8) (maximum_comparison (threshold_of component) r a) no_comparison))))

-- 0 and 1, and 4 to 6, have a second
unfoldable pub second_bid_comparison : (component d market : ℕ) (tight : Bool) (average_price H total : ℕ) → Comparison
second_bid_comparison component d market tight average_price H total =
    cond (leb component 1) (constrained_comparison d market tight average_price H)
    (cond (leb 4 component && leb component 6) (total_comparison d total) no_comparison)

unfoldable pub bid_comparisons : (component r a market : ℕ) (tight : Bool) (average_price H total : ℕ) → Comparisons
bid_comparisons component r a market tight average_price H total =
    comparisons_of (first_bid_comparison component r a)
    (second_bid_comparison component (increase r a) market tight average_price H total) no_comparison no_comparison

-- ---- Withheld, dispatch and fuel

unfoldable pub withheld_comparisons : (a capability S G : ℕ) (tight : Bool) → Comparisons
withheld_comparisons a capability S G tight =
    comparisons_of (capability_comparison a capability) (unit_comparison a tight) (share_comparison S G) (group_comparison S tight)

unfoldable pub dispatch_comparisons : (a rate S : ℕ) (tight : Bool) → Comparisons
dispatch_comparisons a rate S tight =
    comparisons_of (rate_comparison a rate) (unit_comparison a tight) (group_comparison S tight) no_comparison

-- the hour is in the union of P over the party-day: more than 0 of its events have it
unfoldable pub fuel_comparisons : (events : ℕ) → Comparisons
fuel_comparisons events = comparisons_of (compared events 0) no_comparison no_comparison no_comparison

-- ---- what the comparisons say

-- a test fails exactly where one of its comparisons does
abbrev pub FailsBy : (test : Bool) → Comparisons → Type 0
FailsBy test comparisons = test ≡ ltb 0 comparisons.failed

pub record ComparisonsDecide : Type 0 where
  pub bid : (component r a market : ℕ) (tight : Bool) (average_price H total : ℕ)
      → FailsBy (bid_test component r a market tight average_price H total) (bid_comparisons component r a market tight average_price H total)
  pub withheld : (a capability S G : ℕ) (tight : Bool)
      → FailsBy (withheld_test a capability S G tight) (withheld_comparisons a capability S G tight)
  pub dispatch : (a rate S : ℕ) (tight : Bool) → FailsBy (dispatch_test a rate S tight) (dispatch_comparisons a rate S tight)
  pub fuel : (events : ℕ) → FailsBy (ltb 0 events) (fuel_comparisons events)
