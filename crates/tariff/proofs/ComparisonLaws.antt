-- A conduct test fails exactly where one of its comparisons does.
use Prim.Native.Nat.{ℕ, zero, suc, ◌<◌}
use mathlib.Core.Bool.{Bool, true, false, cond, ◌&&◌, ◌||◌}
use mathlib.Core.Path.{◌≡◌, refl, sym, ap, ◌∙◌}
use native.Mathlib.Omega.{arith}
use borrow.Author.Tests.{le-leb, lt-leb, ne_eqb}
use lib.Dec.{ltb, leb}
use Rattle.tariff.specs.declared.comparisons.Comparison.{Comparison}
use Rattle.tariff.specs.ConductTests.{compared, exceeds, increase, lower_test, constrained_comparison, constrained_test, percent_test, total_comparison, time_test, maximum_test, bid_test, capability_comparison, rate_comparison, unit_comparison, share_comparison, group_comparison, withheld_test, dispatch_test}
use Rattle.tariff.specs.Comparisons.{no_comparison, first_failed, comparisons_of, first_bid_comparison, second_bid_comparison, bid_comparisons, withheld_comparisons, dispatch_comparisons, fuel_comparisons, FailsBy, ComparisonsDecide}

-- ---- four comparisons

or_false : (b : Bool) → (b || false) ≡ b
or_false true = refl
or_false false = refl

one_of : (p q r s : Bool) → (p || q || r || s) ≡ ltb 0 (cond p 1 (cond q 2 (cond r 3 (cond s 4 0))))
one_of true q r s = refl
one_of false true r s = refl
one_of false false true s = refl
one_of false false false true = refl
one_of false false false false = refl

any_failed : (p q r s : Comparison) → FailsBy (exceeds p || exceeds q || exceeds r || exceeds s) (comparisons_of p q r s)
unfolding comparisons_of first_failed
any_failed p q r s = one_of (exceeds p) (exceeds q) (exceeds r) (exceeds s)

-- a test with fewer
three_of : (p q r : Comparison) → FailsBy (exceeds p || exceeds q || exceeds r) (comparisons_of p q r no_comparison)
three_of p q r = sym (or_false _) ∙ any_failed p q r no_comparison

two_of : (p q : Comparison) → FailsBy (exceeds p || exceeds q) (comparisons_of p q no_comparison no_comparison)
two_of p q = sym (or_false _) ∙ three_of p q no_comparison

one_decides : (p : Comparison) → FailsBy (exceeds p) (comparisons_of p no_comparison no_comparison no_comparison)
one_decides p = sym (or_false _) ∙ two_of p no_comparison

-- no comparison, no failure
pub none_failed : FailsBy false (comparisons_of no_comparison no_comparison no_comparison no_comparison)
none_failed = one_decides no_comparison

-- ---- bids

-- the total is read by components 4 to 6 alone
read_where : (w : Bool) (d total : ℕ) → cond w (total_comparison d (cond w total 0)) no_comparison ≡ cond w (total_comparison d total) no_comparison
read_where true d total = refl
read_where false d total = refl

pub total_read_is : (component d market : ℕ) (tight : Bool) (average_price H total : ℕ)
    → second_bid_comparison component d market tight average_price H (cond (leb 4 component && leb component 6) total 0)
    ≡ second_bid_comparison component d market tight average_price H total
unfolding second_bid_comparison
total_read_is component d market tight average_price H total =
    ap (cond (leb component 1) (constrained_comparison d market tight average_price H)) (read_where (leb 4 component && leb component 6) d total)

module _ (r a market : ℕ) (tight : Bool) (average_price H total : ℕ) where
  -- the comparisons of a component, and its test
  abbrev pair : (component : ℕ) → Type 0
  pair k =
      bid_test k r a market tight average_price H total
      ≡ (exceeds (first_bid_comparison k r a) || exceeds (second_bid_comparison k (increase r a) market tight average_price H total))

  -- no component is above 8
  beyond : (k : ℕ) → 8 < k → pair k
  unfolding bid_test first_bid_comparison second_bid_comparison
  beyond k l =
      rw (
        lt-leb k 1 (omega arith),
        lt-leb k 2 (omega arith),
        ne_eqb k 2 (λ e. omega arith),
        ne_eqb k 3 (λ e. omega arith),
        le-leb 4 k (omega arith),
        lt-leb k 6 (omega arith),
        ne_eqb k 7 (λ e. omega arith),
        ne_eqb k 8 (λ e. omega arith),
      )

  bid_pairs : (component : ℕ) → pair component
  unfolding bid_test first_bid_comparison second_bid_comparison lower_test constrained_test percent_test time_test maximum_test
  bid_pairs zero = simp or_false
  bid_pairs (suc zero) = simp or_false
  bid_pairs (suc (suc zero)) = simp or_false
  bid_pairs (suc (suc (suc zero))) = simp or_false
  bid_pairs (suc (suc (suc (suc zero)))) = simp or_false
  bid_pairs (suc (suc (suc (suc (suc zero))))) = simp or_false
  bid_pairs (suc (suc (suc (suc (suc (suc zero)))))) = simp or_false
  bid_pairs (suc (suc (suc (suc (suc (suc (suc zero))))))) = simp or_false
  bid_pairs (suc (suc (suc (suc (suc (suc (suc (suc zero)))))))) = simp or_false
  bid_pairs (suc (suc (suc (suc (suc (suc (suc (suc (suc k))))))))) = beyond (suc (suc (suc (suc (suc (suc (suc (suc (suc k))))))))) (omega arith)

  bid_decides : (component : ℕ) → FailsBy (bid_test component r a market tight average_price H total) (bid_comparisons component r a market tight average_price H total)
  unfolding bid_comparisons
  bid_decides k = bid_pairs k ∙ two_of (first_bid_comparison k r a) (second_bid_comparison k (increase r a) market tight average_price H total)

-- so it is by the test
pub bid_total : (component r a market : ℕ) (tight : Bool) (average_price H total : ℕ)
    → bid_test component r a market tight average_price H (cond (leb 4 component && leb component 6) total 0)
    ≡ bid_test component r a market tight average_price H total
bid_total component r a market tight average_price H total =
    bid_pairs r a market tight average_price H (cond (leb 4 component && leb component 6) total 0) component
    ∙ ap (λ (c : Comparison). exceeds (first_bid_comparison component r a) || exceeds c) (total_read_is component (increase r a) market tight average_price H total)
    ∙ sym (bid_pairs r a market tight average_price H total component)

-- ---- withheld, dispatch and fuel

withheld_decides : (a capability S G : ℕ) (tight : Bool) → FailsBy (withheld_test a capability S G tight) (withheld_comparisons a capability S G tight)
unfolding withheld_test withheld_comparisons
withheld_decides a capability S G tight =
    any_failed (capability_comparison a capability) (unit_comparison a tight) (share_comparison S G) (group_comparison S tight)

dispatch_decides : (a rate S : ℕ) (tight : Bool) → FailsBy (dispatch_test a rate S tight) (dispatch_comparisons a rate S tight)
unfolding dispatch_test dispatch_comparisons
dispatch_decides a rate S tight = three_of (rate_comparison a rate) (unit_comparison a tight) (group_comparison S tight)

fuel_decides : (events : ℕ) → FailsBy (ltb 0 events) (fuel_comparisons events)
unfolding fuel_comparisons
fuel_decides events = one_decides (compared events 0)

pub comparisons_decide : ComparisonsDecide
comparisons_decide =
    record {
      bid = λ k r a market tight average_price H total. bid_decides r a market tight average_price H total k;
      withheld = withheld_decides;
      dispatch = dispatch_decides;
      fuel = fuel_decides;
    }
