-- The conduct test of an hour is a comparison with its lines, one for every hour and a lower one for tight hours.
use Prim.Native.Nat.{ℕ, ◌-◌, ◌*◌, ◌/◌, ◌≤◌, ◌<◌, zero-le, min}
use mathlib.Core.Bool.{Bool, true, false, cond, ◌&&◌, ◌||◌, or-true}
use mathlib.Core.List.{List}
use mathlib.Core.Path.{◌≡◌, refl, sym, ap, ap₂, ◌∙◌}
use native.Mathlib.Omega.{arith}
use borrow.Author.Tests.{ltb-true, lt-ltb, le-leb, lt-leb, ne_eqb}
use lib.Bits.{bit_and, bit_or}
use lib.Dec.{ltb, leb, eqb}
use lib.ListN.{get_or}
use Rattle.binary.specs.Bounded.{mask_to, bit_of}
use Rattle.binary.specs.Word.{positive_part}
use Rattle.binary.proofs.MaskLaws.{mask_same, bit_past}
use Rattle.binary.proofs.WordLaws.{positive_lt}
use Rattle.tariff.specs.Threshold.{threshold_of}
use Rattle.tariff.specs.ConductTests.{increase, time_limit, unit_share, group_share, response_minutes, unit_limit, group_limit, withheld_test, dispatch_test, bid_test}
use Rattle.line.specs.OpenLine.{clause_asked, lower_line, constrained_line, energy_line, is_time, over_sum, open_line}
use Rattle.line.proofs.OpenLaws.{same_ltb, above_lower, crosses, bid_crosses}
use Rattle.hour_masks.specs.declared.bid_hours.Bid.{Bid}
use Rattle.hour_masks.specs.StageColumns.{over, above, below}
use Rattle.hour_masks.specs.StageHours.{either_over, over_shares, withheld_hour, dispatch_hour, capped, line_in, sum_hour, bid_hour}
use Rattle.hour_masks.proofs.JoinLaws.{or_mask, and_mask, join_mask, none_mask}

-- ---- a test that a tight hour only widens

loose : (x y : Bool) → (x || (y && false)) ≡ x
loose true y = refl
loose false true = refl
loose false false = refl

widened : (F : Bool → Bool) → (F false ≡ true → F true ≡ true) → (t : Bool) → F t ≡ (F false || (F true && t))
widened F h false = sym (loose (F false) (F true))
widened F h true = go (F false) (F true) h
  where
    go : (x y : Bool) → (x ≡ true → y ≡ true) → y ≡ (x || (y && true))
    go true y h = h refl
    go false true h = refl
    go false false h = refl

not_tight : (tight h : ℕ) → tight ≡ 0 → bit_of tight h ≡ false
not_tight tight h z = ap (λ (m : ℕ). bit_of m h) z ∙ bit_past 0 0 h (omega arith) zero-le

over_lower : (l k A : ℕ) → k ≤ l → ltb l A ≡ true → ltb k A ≡ true
over_lower l k A e h = let q = ltb-true l A h in lt-ltb k A (omega arith)

either_wider : (x y x' y' : Bool) → (x ≡ true → x' ≡ true) → (y ≡ true → y' ≡ true) → (x || y) ≡ true → (x' || y') ≡ true
either_wider true y x' y' f g h = ap (λ (b : Bool). b || y') (f refl)
either_wider false y x' y' f g h = ap (λ (b : Bool). x' || b) (g h) ∙ or-true x'

-- ---- megawatts

module _ (column sums : List ℕ) (unit group : ℕ) where
  abbrev pub shares_in : (tight : Bool) (h : ℕ) → Bool
  shares_in tight = either_over column sums (min unit (unit_limit tight)) (min group (group_limit tight))

  in_hour : (tight h : ℕ) → over_shares column sums tight unit group h ≡ (shares_in false h || (shares_in true h && bit_of tight h))
  unfolding over_shares either_over over unit_limit group_limit
  in_hour tight h =
      widened (λ t. shares_in t h)
      (either_wider _ _ _ _ (over_lower (min unit (unit_limit false)) (min unit (unit_limit true)) (get_or column h 0) (omega arith)) (over_lower (min group (group_limit false)) (min group (group_limit true)) (get_or sums h 0) (omega arith)))
      (bit_of tight h)

  pub shares_joined : (n tight far near : ℕ) → far ≡ mask_to n (shares_in false) → near ≡ mask_to n (shares_in true)
      → bit_or far (bit_and near tight) ≡ mask_to n (over_shares column sums tight unit group)
  shares_joined n tight far near e f =
      rw (e, f) (join_mask n tight (shares_in false) (shares_in true) ∙ mask_same n _ _ (λ h l. sym (in_hour tight h)))

  pub shares_loose : (n tight far : ℕ) → tight ≡ 0 → far ≡ mask_to n (shares_in false) → far ≡ mask_to n (over_shares column sums tight unit group)
  shares_loose n tight far z e =
      e ∙ mask_same n _ _ (λ h l. sym (in_hour tight h ∙ ap (λ (b : Bool). shares_in false h || (shares_in true h && b)) (not_tight tight h z) ∙ loose (shares_in false h) (shares_in true h)))

four : (x y z w : Bool) → (x || y || z || w) ≡ ((x || y) || (z || w))
four true y z w = refl
four false true z w = refl
four false false z w = refl

three : (x y z : Bool) → (x || y || z) ≡ ((x || y) || z)
three true y z = refl
three false true z = refl
three false false z = refl

withheld_shares : (a c S G : ℕ) (t : Bool)
    → withheld_test a c S G t ≡ (ltb (min (c / unit_share) (unit_limit t)) a || ltb (min (G / group_share) (group_limit t)) S)
unfolding withheld_test
withheld_shares a c S G t =
    four (ltb c (unit_share * a)) (ltb (unit_limit t) a) (ltb G (group_share * S)) (ltb (group_limit t) S)
    ∙ ap₂ (λ (x y : Bool). x || y)
    (ap (λ (x : Bool). x || ltb (unit_limit t) a) own ∙ above_lower (c / unit_share) (unit_limit t) a)
    (ap (λ (x : Bool). x || ltb (group_limit t) S) of_group ∙ above_lower (G / group_share) (group_limit t) S)
  where
    own : ltb c (unit_share * a) ≡ ltb (c / unit_share) a
    own = same_ltb c (unit_share * a) (c / unit_share) a (λ l. omega arith) (λ l. omega arith)

    of_group : ltb G (group_share * S) ≡ ltb (G / group_share) S
    of_group = same_ltb G (group_share * S) (G / group_share) S (λ l. omega arith) (λ l. omega arith)

-- the limit of any hour is no lower than that of a tight one
group_lower : (t : Bool) → group_limit t ≡ min (group_limit false) (group_limit t)
unfolding group_limit
group_lower true = refl
group_lower false = refl

dispatch_shares : (a rate S : ℕ) (t : Bool)
    → dispatch_test a rate S t ≡ (ltb (min (response_minutes * rate) (unit_limit t)) a || ltb (min (group_limit false) (group_limit t)) S)
unfolding dispatch_test
dispatch_shares a rate S t =
    three (ltb (response_minutes * rate) a) (ltb (unit_limit t) a) (ltb (group_limit t) S)
    ∙ ap₂ (λ (x y : Bool). x || y) (above_lower (response_minutes * rate) (unit_limit t) a) (ap (λ (l : ℕ). ltb l S) (group_lower t))

pub withheld_mask : (n : ℕ) (column sums : List ℕ) (tight c G r : ℕ) → r ≡ mask_to n (over_shares column sums tight (c / unit_share) (G / group_share))
    → r ≡ mask_to n (withheld_hour column sums tight c G)
unfolding over_shares either_over over withheld_hour
withheld_mask n column sums tight c G r e = e ∙ mask_same n _ _ (λ h l. sym (withheld_shares (get_or column h 0) c (get_or sums h 0) G (bit_of tight h)))

pub dispatch_mask : (n : ℕ) (column sums : List ℕ) (tight rate r : ℕ)
    → r ≡ mask_to n (over_shares column sums tight (response_minutes * rate) (group_limit false)) → r ≡ mask_to n (dispatch_hour column sums tight rate)
unfolding over_shares either_over over dispatch_hour
dispatch_mask n column sums tight rate r e =
    e ∙ mask_same n _ _ (λ h l. sym (dispatch_shares (get_or column h 0) rate (get_or sums h 0) (bit_of tight h)))

-- ---- bids

-- the cap changes no comparison with a positive part
capped_above : (x a : ℕ) → ltb (capped x) (positive_part 32 a) ≡ ltb x (positive_part 32 a)
capped_above x a =
    let l : positive_part 32 a < 2147483648 = positive_lt 32 a in
    same_ltb (min x 2147483648) (positive_part 32 a) x (positive_part 32 a) (λ s. omega arith) (λ s. omega arith)

capped_below : (x a : ℕ) → ltb (positive_part 32 a) (capped x) ≡ ltb (positive_part 32 a) x
capped_below x a =
    let l : positive_part 32 a < 2147483648 = positive_lt 32 a in
    same_ltb (positive_part 32 a) (min x 2147483648) (positive_part 32 a) x (λ s. omega arith) (λ s. omega arith)

-- the line of a tight hour is no higher
tight_lower : (k r market p H : ℕ) → open_line k r market true p H ≤ open_line k r market false p H
unfolding open_line energy_line clause_asked
tight_lower k r market p H = by (leb k 1) _ (energy (eqb market 1) (leb 1 H) (lower_line (threshold_of k) r) (constrained_line r p H))
  where
    energy : (x y : Bool) (l m : ℕ) → cond (x && true && y) (min l m) l ≤ cond (x && false && y) (min l m) l
    energy true true l m = omega arith
    energy true false l m = omega arith
    energy false y l m = omega arith

    by : (low : Bool) (rest : ℕ) {x y : ℕ} → x ≤ y → cond low x rest ≤ cond low y rest
    by true rest l = l
    by false rest l = omega arith

-- past component 8 no bid fails
bid_past : (k r a market : ℕ) (tight : Bool) (p H total : ℕ) → 8 < k → bid_test k r a market tight p H total ≡ false
unfolding bid_test
bid_past k r a market tight p H total l =
    rw (lt-leb k 1 (omega arith), lt-leb k 6 (omega arith), le-leb 4 k (omega arith), ne_eqb k 2 (omega arith), ne_eqb k 3 (omega arith), ne_eqb k 7 (omega arith), ne_eqb k 8 (omega arith))

-- component 8 has one line
eighth : (k r a market : ℕ) (tight : Bool) (p H total : ℕ) → k ≡ 8
    → bid_test k r a market tight p H total ≡ ltb (positive_part 32 a) (open_line k r market false p H)
unfolding open_line crosses
eighth k r a market tight p H total e = rw e (bid_crosses r a market tight p H total 8 (omega arith))

module _ (column sums : List ℕ) (bid : Bid) where
  pub past_mask : (n tight : ℕ) → 8 < bid.component → 0 ≡ mask_to n (bid_hour column sums tight bid)
  unfolding bid_hour
  past_mask n tight l = none_mask n _ (λ h k. bid_past bid.component _ _ _ _ _ _ _ l)

  abbrev above_in : (tight : Bool) (h : ℕ) → Bool
  above_in tight = above column (capped (line_in bid tight))

  bid_in_hour : (tight h : ℕ) → bid.component ≤ 8 → eqb bid.component 8 ≡ false
      → bid_hour column sums tight bid h ≡ ((above_in false h || sum_hour column sums bid h) || (above_in true h && bit_of tight h))
  unfolding bid_hour above sum_hour crosses
  bid_in_hour tight h l e =
      let A : ℕ = positive_part 32 (get_or column h 0) in
      bid_crosses bid.reference (get_or column h 0) bid.market (bit_of tight h) bid.average_price bid.constrained_hours (get_or sums h 0) bid.component l
      ∙ rw (e, capped_above (line_in bid false) (get_or column h 0), capped_above (line_in bid true) (get_or column h 0))
      (ap (λ (x : Bool). x || over_sum bid.component bid.reference (get_or column h 0) (get_or sums h 0))
      (widened (λ t. ltb (line_in bid t) A) (over_lower (line_in bid false) (line_in bid true) A (tight_lower bid.component bid.reference bid.market bid.average_price bid.constrained_hours)) (bit_of tight h))
      ∙ swap (ltb (line_in bid false) A) (ltb (line_in bid true) A && bit_of tight h) (over_sum bid.component bid.reference (get_or column h 0) (get_or sums h 0)))
    where
      swap : (x y o : Bool) → ((x || y) || o) ≡ ((x || o) || y)
      swap true y o = refl
      swap false true true = refl
      swap false true false = refl
      swap false false true = refl
      swap false false false = refl

  abbrev far_of : (h : ℕ) → Bool
  far_of h = above_in false h || sum_hour column sums bid h

  pub bid_joined : (n tight above sum near : ℕ) → bid.component ≤ 8 → eqb bid.component 8 ≡ false
      → above ≡ mask_to n (above_in false) → sum ≡ mask_to n (sum_hour column sums bid) → near ≡ mask_to n (above_in true)
      → bit_or (bit_or above sum) (bit_and near tight) ≡ mask_to n (bid_hour column sums tight bid)
  bid_joined n tight above sum near l e a s t =
      rw (a, s, t, or_mask n (above_in false) (sum_hour column sums bid))
      (join_mask n tight far_of (above_in true) ∙ mask_same n _ _ (λ h k. sym (bid_in_hour tight h l e)))

  pub bid_loose : (n tight above sum : ℕ) → bid.component ≤ 8 → eqb bid.component 8 ≡ false → tight ≡ 0
      → above ≡ mask_to n (above_in false) → sum ≡ mask_to n (sum_hour column sums bid) → bit_or above sum ≡ mask_to n (bid_hour column sums tight bid)
  bid_loose n tight above sum l e z a s =
      rw (a, s)
      (or_mask n (above_in false) (sum_hour column sums bid)
      ∙ mask_same n _ _ (λ h k. sym (bid_in_hour tight h l e ∙ ap (λ (b : Bool). far_of h || (above_in true h && b)) (not_tight tight h z) ∙ loose (far_of h) (above_in true h))))

  -- component 8
  pub below_mask : (n tight : ℕ) → bid.component ≡ 8 → mask_to n (below column (capped (line_in bid false))) ≡ mask_to n (bid_hour column sums tight bid)
  unfolding below bid_hour
  below_mask n tight e =
      mask_same n _ _
      (λ h k.
      capped_below (line_in bid false) (get_or column h 0)
      ∙ sym (eighth bid.component bid.reference (get_or column h 0) bid.market (bit_of tight h) bid.average_price bid.constrained_hours (get_or sums h 0) e))

  -- components 4 to 6
  pub sum_mask : (n longer late : ℕ) → is_time bid.component ≡ true → longer ≡ mask_to n (above column (capped bid.reference))
      → late ≡ mask_to n (over sums time_limit) → bit_and longer late ≡ mask_to n (sum_hour column sums bid)
  unfolding above over sum_hour over_sum increase
  sum_mask n longer late t e f =
      rw (e, f)
      (and_mask n (above column (capped bid.reference)) (over sums time_limit)
      ∙ mask_same n _ _
      (λ h l.
      rw (t, capped_above bid.reference (get_or column h 0))
      (ap (λ (x : Bool). x && ltb time_limit (get_or sums h 0)) (longer_than bid.reference (positive_part 32 (get_or column h 0))))))
    where
      longer_than : (r A : ℕ) → ltb r A ≡ ltb 0 (A - r)
      longer_than r A = same_ltb r A 0 (A - r) (λ s. omega arith) (λ s. omega arith)

  pub no_sum : (n : ℕ) → is_time bid.component ≡ false → 0 ≡ mask_to n (sum_hour column sums bid)
  unfolding sum_hour over_sum
  no_sum n t = none_mask n _ (λ h l. rw t)
