-- An hour is flagged exactly where a comparison of its working fails.
use Prim.Native.Nat.{ℕ}
use mathlib.Core.Bool.{Bool, true, false, cond, ◌&&◌}
use mathlib.Core.Path.{◌≡◌, refl, sym, ap, ◌∙◌}
use borrow.Author.Tests.{eqb-true}
use lib.Dec.{ltb, eqb}
use Rattle.tariff.specs.Comparisons.{bid_comparisons, FailsBy}
use Rattle.tariff.proofs.ComparisonLaws.{none_failed, total_read_is, comparisons_decide}
use Rattle.casefile.specs.Layout.{most_hours}
use Rattle.casefile.specs.Case.{Case}
use Rattle.casefile.specs.Decode.{decode}
use Rattle.casefile.specs.Lookup.{unit_of, reference_of}
use Rattle.limits.specs.Refusal.{refusal, most_rows}
use Rattle.conduct.specs.Flags.{tight, sum_together, time_total, bid_flag, group_capability, group_sum, withheld_flag, dispatch_flag, fuel_flag, flagged}
use Rattle.casefile.specs.Lookup.{bid_level}
use Rattle.conduct.specs.StageFlags.{party_sum}
use Rattle.conduct.proofs.SumLaws.{sum_union}
use Rattle.working.specs.Working.{fuel_events, sums_of, total_of, figures_with, figures_of, comparisons_for, working_from, working_at, refused_working, working_of, FlaggedWhereFailed}
use Rattle.working.proofs.WorkingLaws.{fuel_sum}

module _ (c : Case) (i h : ℕ) where
  fuel_failed : c.events.kind i ≡ 3 → fuel_flag c i h ≡ ltb 0 (fuel_events c i h)
  unfolding party_sum sum_together
  fuel_failed k = sym (sum_union c i h k) ∙ ap (ltb 0) (fuel_sum c i h k)

  level_of_bid : eqb (c.events.kind i) 4 ≡ true → bid_level c.references c.events i ≡ reference_of c i
  unfolding bid_level reference_of
  level_of_bid q = rw q

  bid_failed : eqb (c.events.kind i) 4 ≡ true
      → FailsBy (bid_flag c i h)
      (bid_comparisons (c.events.component i) (bid_level c.references c.events i) (c.a i h) (c.events.market i) (tight c i h)
      (c.units.average_price (unit_of c i)) (c.units.constrained_hours (unit_of c i)) (total_of c i h))
  unfolding bid_flag total_of bid_comparisons
  bid_failed q =
      rw (level_of_bid q, total_read_is)
      (comparisons_decide.bid (c.events.component i) (reference_of c i) (c.a i h) (c.events.market i) (tight c i h)
      (c.units.average_price (unit_of c i)) (c.units.constrained_hours (unit_of c i)) (time_total c i h))

  by_kind : (one two three four : Bool) → eqb (c.events.kind i) 1 ≡ one → eqb (c.events.kind i) 2 ≡ two → eqb (c.events.kind i) 3 ≡ three
      → eqb (c.events.kind i) 4 ≡ four → flagged c i h ≡ ltb 0 (working_at c i h).failed
  unfolding flagged working_at working_from comparisons_for figures_of figures_with sums_of withheld_flag dispatch_flag
  by_kind true two three four p q r s =
      rw p (comparisons_decide.withheld (c.a i h) (c.units.capability (unit_of c i)) (group_sum c i h) (group_capability c i) (tight c i h))
  by_kind false true three four p q r s =
      rw (p, q) (comparisons_decide.dispatch (c.a i h) (c.units.rate (unit_of c i)) (group_sum c i h) (tight c i h))
  by_kind false false true four p q r s = rw (p, q, r) (fuel_failed (eqb-true _ _ r) ∙ comparisons_decide.fuel (fuel_events c i h))
  by_kind false false false true p q r s = rw (p, q, r, s) (bid_failed s)
  by_kind false false false false p q r s = rw (p, q, r, s) none_failed

  flagged_at : flagged c i h ≡ ltb 0 (working_at c i h).failed
  flagged_at = by_kind (eqb (c.events.kind i) 1) (eqb (c.events.kind i) 2) (eqb (c.events.kind i) 3) (eqb (c.events.kind i) 4) refl refl refl refl

pub flagged_where_failed : FlaggedWhereFailed
unfolding working_of working_at working_from refused_working
flagged_where_failed f k i h = pick (eqb (refusal f k (most_rows f)) 0) (ltb i (decode f).events.count && ltb h most_hours)
  where
    pick : (fine inside : Bool)
        → (cond fine (cond inside (working_at (decode f) i h) (refused_working 10)) (refused_working (refusal f k (most_rows f)))).flagged
        ≡ ltb 0 (cond fine (cond inside (working_at (decode f) i h) (refused_working 10)) (refused_working (refusal f k (most_rows f)))).failed
    pick true true = flagged_at (decode f) i h
    pick true false = refl
    pick false inside = refl
