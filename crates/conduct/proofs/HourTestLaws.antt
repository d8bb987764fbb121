-- The mask of the hours that fail a test is the mask of the flagged hours of the case.
use Prim.Native.Nat.{ℕ, ◌<◌, zero-le}
use mathlib.Core.Bool.{Bool, true, false, cond, ◌&&◌}
use mathlib.Core.List.{List, []}
use mathlib.Core.Path.{◌≡◌, refl, sym, ap, ◌∙◌}
use native.Mathlib.Omega.{arith}
use borrow.Author.Tests.{eqb-true}
use lib.Dec.{ltb, eqb}
use lib.ListN.{get_or}
use Rattle.binary.specs.Bounded.{mask_to, bit_of}
use Rattle.binary.proofs.MaskLaws.{mask_same, bit_past}
use Rattle.tariff.proofs.ComparisonLaws.{bid_total}
use Rattle.casefile.specs.declared.layout.Format.{Format}
use Rattle.casefile.specs.Layout.{most_hours}
use Rattle.casefile.specs.Case.{Case}
use Rattle.casefile.specs.Decode.{units_in, events_in, case_in, cells_from}
use Rattle.casefile.specs.Lookup.{unit_of}
use Rattle.casefile.specs.StageRead.{cell_of}
use Rattle.hour_masks.specs.declared.bid_hours.Bid.{Bid}
use Rattle.conduct.specs.declared.hour_tests.Withheld.{Withheld}
use Rattle.conduct.specs.declared.hour_tests.ConductTest.TheVariants as test
use Rattle.conduct.specs.Flags.{tight, sum_together, group_capability, group_sum, withheld_flag, dispatch_flag, fuel_flag}
use Rattle.conduct.specs.StageMasks.{bid_of, test_of, tight_hours, fails_in, fails_at}
use Rattle.conduct.specs.StageFlags.{party_sum, HasRow, time_total_in, total_read, bid_flag_in, flagged_in, flag_mask_in, mask_in}
use Rattle.conduct.proofs.SumLaws.{cell_amount, sum_amounts, sum_union}

-- ---- an hour's test, by the kind

-- the bit of a mask that counts where a test passes
pub tight_bit : (b : Bool) (P h : ℕ) → bit_of (cond b P 0) h ≡ (b && bit_of P h)
tight_bit true P h = refl
tight_bit false P h = bit_past 0 0 h (omega arith) zero-le

by_kind : (k1 k2 k3 k4 : Bool) (w : Withheld) (rate : ℕ) (bid : Bid) (a s : ℕ) (t x1 x2 x3 x4 : Bool)
    → (k1 ≡ true → fails_in (test.Withheld w) a s t ≡ x1) → (k2 ≡ true → fails_in (test.Dispatch rate) a s t ≡ x2)
    → (k3 ≡ true → fails_in test.Fuel a s t ≡ x3) → (k4 ≡ true → fails_in (test.Bid bid) a s t ≡ x4)
    → fails_in (cond k1 (test.Withheld w) (cond k2 (test.Dispatch rate) (cond k3 test.Fuel (cond k4 (test.Bid bid) test.NoTest)))) a s t
    ≡ cond k1 x1 (cond k2 x2 (cond k3 x3 (cond k4 x4 false)))
unfolding fails_in
by_kind true k2 k3 k4 w rate bid a s t x1 x2 x3 x4 h1 h2 h3 h4 = h1 refl
by_kind false true k3 k4 w rate bid a s t x1 x2 x3 x4 h1 h2 h3 h4 = h2 refl
by_kind false false true k4 w rate bid a s t x1 x2 x3 x4 h1 h2 h3 h4 = h3 refl
by_kind false false false true w rate bid a s t x1 x2 x3 x4 h1 h2 h3 h4 = h4 refl
by_kind false false false false w rate bid a s t x1 x2 x3 x4 h1 h2 h3 h4 = refl

module _ (c : Case) (i h a s : ℕ) (t : Bool) (ea : a ≡ c.a i h) (et : t ≡ tight c i h) where
  withheld_at : (w : Withheld) → w.capability ≡ c.units.capability (unit_of c i) → w.group_capability ≡ group_capability c i
      → s ≡ group_sum c i h → fails_in (test.Withheld w) a s t ≡ withheld_flag c i h
  unfolding fails_in withheld_flag
  withheld_at w ek e_g es = rw (ea, et, ek, e_g, es)

  dispatch_at : (rate : ℕ) → rate ≡ c.units.rate (unit_of c i) → s ≡ group_sum c i h → fails_in (test.Dispatch rate) a s t ≡ dispatch_flag c i h
  unfolding fails_in dispatch_flag
  dispatch_at rate er es = rw (ea, et, er, es)

  fuel_at : c.events.kind i ≡ 3 → s ≡ party_sum c i h → fails_in test.Fuel a s t ≡ fuel_flag c i h
  unfolding fails_in party_sum sum_together
  fuel_at k es = ap (ltb 0) es ∙ sum_union c i h k

  bid_at : (levels : List ℕ) (level : ℕ) → level ≡ get_or levels i 0 → s ≡ total_read c levels i h
      → fails_in (test.Bid (bid_of c.units c.events (unit_of c i) level i)) a s t ≡ bid_flag_in c levels i h
  unfolding fails_in bid_of bid_flag_in total_read
  bid_at levels level el es =
      rw (ea, et, el, es)
      (bid_total (c.events.component i) (get_or levels i 0) (c.a i h) (c.events.market i) _
      (c.units.average_price (unit_of c i)) (c.units.constrained_hours (unit_of c i)) (time_total_in c levels i h))

  -- for kinds 1 and 2 the party's sum is S
  amounts_at : (k : ℕ) → c.events.kind i ≡ k → (k ≡ 3 → ⊥) → s ≡ party_sum c i h → s ≡ group_sum c i h
  unfolding party_sum sum_together
  amounts_at k e n es = es ∙ sum_amounts c i h (λ q. n (sym e ∙ q))

-- ---- the mask of an event

-- what is read: the level and the time totals by a bid, G and the party's sums by the other kinds
pub record Read (c : Case) (levels : List ℕ) (i level G : ℕ) (sums : List ℕ) : Type 0 where
  pub bid : c.events.kind i ≡ 4 → (level ≡ get_or levels i 0) × HasRow (total_read c levels i) sums
  pub capability : c.events.kind i ≡ 1 → G ≡ group_capability c i
  pub party : (c.events.kind i ≡ 4 → ⊥) → HasRow (party_sum c i) sums

hour_at : (c : Case) (levels sums : List ℕ) (i h level G a : ℕ) (t : Bool) → Read c levels i level G sums → h < most_hours → a ≡ c.a i h → t ≡ tight c i h
    → fails_in (test_of c.units c.events (unit_of c i) level G i) a (get_or sums h 0) t ≡ flagged_in c levels i h
unfolding test_of flagged_in
hour_at c levels sums i h level G a t r l ea et =
    by_kind (eqb (c.events.kind i) 1) (eqb (c.events.kind i) 2) (eqb (c.events.kind i) 3) (eqb (c.events.kind i) 4) _ _ _ a (get_or sums h 0) t
    (withheld_flag c i h) (dispatch_flag c i h) (fuel_flag c i h) (bid_flag_in c levels i h)
    (λ q. let k = eqb-true _ 1 q in withheld_at c i h a _ t ea et _ refl (r.capability k) (amounts 1 k (omega arith) (λ z. let o : ⊥ = omega arith in o)))
    (λ q. let k = eqb-true _ 2 q in dispatch_at c i h a _ t ea et _ refl (amounts 2 k (omega arith) (λ z. let o : ⊥ = omega arith in o)))
    (λ q. let k = eqb-true _ 3 q in fuel_at c i h a _ t ea et k (row 3 k (omega arith)))
    (λ q. let b = r.bid (eqb-true _ 4 q) in bid_at c i h a _ t ea et levels level b.0 (b.1.each h l))
  where
    row : (k : ℕ) → c.events.kind i ≡ k → k < 4 → get_or sums h 0 ≡ party_sum c i h
    row k e m = (r.party (λ z. let o : ⊥ = omega arith in o)).each h l

    amounts : (k : ℕ) → c.events.kind i ≡ k → k < 4 → (k ≡ 3 → ⊥) → get_or sums h 0 ≡ group_sum c i h
    amounts k e m n = amounts_at c i h a _ t ea et k e n (row k e m)

pub hours_are : (format : Format) (u e levels : List ℕ) (i : ℕ) → mask_to most_hours (flagged_in (case_in format u [] [] e) levels i) ≡ flag_mask_in (case_in format u [] [] e) levels i
unfolding flag_mask_in case_in events_in
hours_are format u e levels i = refl

module _ (format : Format) (u e : List ℕ) (i : ℕ) where
  amount_is : (h : ℕ) → (cell_of (cells_from format e i) h).a ≡ (case_in format u [] [] e).a i h
  unfolding case_in
  amount_is h = cell_amount format e i h

  tight_is : (h : ℕ) → bit_of (tight_hours (units_in format u) (events_in format e) (unit_of (case_in format u [] [] e) i) i) h ≡ tight (case_in format u [] [] e) i h
  unfolding tight_hours tight case_in
  tight_is h = tight_bit (eqb ((units_in format u).area (unit_of (case_in format u [] [] e) i)) 1) ((events_in format e).P i) h

  test_is : (level G : ℕ) → test_of (units_in format u) (events_in format e) (unit_of (case_in format u [] [] e) i) level G i
      ≡ test_of (case_in format u [] [] e).units (case_in format u [] [] e).events (unit_of (case_in format u [] [] e) i) level G i
  unfolding case_in
  test_is level G = refl

  pub mask_is : (levels sums : List ℕ) (place level G x : ℕ) → place ≡ unit_of (case_in format u [] [] e) i → Read (case_in format u [] [] e) levels i level G sums
      → x ≡ mask_in format u e place level G sums i → x ≡ flag_mask_in (case_in format u [] [] e) levels i
  unfolding mask_in fails_at
  mask_is levels sums place level G x at r q =
      q ∙ ap (λ (p : ℕ). mask_in format u e p level G sums i) at
      ∙ mask_same most_hours _ _
      (λ h l.
      ap (λ k. fails_in k (cell_of (cells_from format e i) h).a (get_or sums h 0) (bit_of (tight_hours (units_in format u) (events_in format e) (unit_of (case_in format u [] [] e) i) i) h)) (test_is level G)
      ∙ hour_at (case_in format u [] [] e) levels sums i h level G _ _ r l (amount_is h) (tight_is h))
      ∙ hours_are format u e levels i
