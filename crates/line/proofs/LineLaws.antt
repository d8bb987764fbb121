-- The line is in range and passes, and of the bids in range just those on its good side do.
use Prim.Native.Nat.{ℕ, zero, suc, ◌+◌, ◌-◌, ◌^◌, ◌≤◌, ◌<◌, min}
use mathlib.Core.Bool.{Bool, true, false, cond, not, ◌&&◌, ◌||◌, or-false, and-false}
use mathlib.Core.Path.{◌≡◌, refl, sym, ap, subst, ◌∙◌}
use native.Mathlib.Nat.{suc-ne-zero}
use native.Mathlib.Omega.{arith}
use borrow.Author.Tests.{ltb-false, lt-ltb, le-ltb, leb-true, leb-false, le-leb, not-false}
use lib.Dec.{ltb, leb, eqb}
use Rattle.binary.specs.Word.{positive_part, negative_part, within}
use Rattle.binary.proofs.WordLaws.{within_positive}
use Rattle.binary.proofs.Implies.{or_l, or_r}
use Rattle.tariff.specs.declared.threshold.Threshold.{Threshold}
use Rattle.tariff.specs.Threshold.{threshold_of}
use Rattle.tariff.specs.ConductTests.{bid_test}
use Rattle.tariff.specs.Ranges.{highest_average_price, most_constrained_hours, highest_component, highest_market, highest_price_reference, highest_other_reference, reference_in_range, highest_price_bid, highest_other_bid, bid_in_range}
use Rattle.std.specs.Prelude.{Result}
use Rattle.calls.specs.declared.answers.Refusal.{Refusal}
use Rattle.calls.specs.Answers.{Answer, refused, given, figure_answer, figure_of}
use Rattle.calls.specs.OutOfRange.{bad_reference, bad_unit}
use Rattle.calls.proofs.AnswerLaws.{figure_answered}
use Rattle.line.specs.OpenLine.{lower_line, clause_asked, constrained_line, energy_line, percent_line, time_line, maximum_line, is_time, over_sum, open_line}
use Rattle.line.specs.BidLine.{highest_bid, line_of, no_higher, good_side, IsLine}
use Rattle.line.specs.LineCall.{bad_line, line_answer, Promised}
use Rattle.line.specs.LineSheet.{lines}
use Rattle.line.proofs.OpenLaws.{same_ltb, crosses, by_component, bid_crosses}

-- ---- the order of words with their signs

word_parts : (w : ℕ) → w ≤ highest_other_bid → (positive_part 32 w ≡ w) × (negative_part 32 w ≡ 0)
unfolding positive_part negative_part
word_parts w l = (rw (lt-ltb w (2 ^ 31) (omega arith)), rw (lt-ltb w (2 ^ 31) (omega arith)))

one_part : (w : ℕ) → 0 < negative_part 32 w → positive_part 32 w ≡ 0
unfolding positive_part negative_part
one_part w = go (ltb w (2 ^ 31))
  where
    go : (b : Bool) → 0 < cond b 0 (2 ^ 32 - w) → cond b w 0 ≡ 0
    go true l = absurd (omega arith)
    go false l = refl

positive_le : (w : ℕ) → positive_part 32 w ≤ w
unfolding positive_part
positive_le w = go (ltb w (2 ^ 31)) w
  where
    go : (b : Bool) (x : ℕ) → cond b x 0 ≤ x
    go true x = omega arith
    go false x = omega arith

not_leb : (x y : ℕ) → not (leb x y) ≡ ltb y x
not_leb x y = go (leb x y) refl
  where
    go : (b : Bool) → leb x y ≡ b → not b ≡ ltb y x
    go true e = let l = leb-true x y e in sym (le-ltb y x (omega arith))
    go false e = let l = leb-false x y e in sym (lt-ltb y x (omega arith))

-- a line is never negative
above_line : (a l : ℕ) → l ≤ highest_other_bid → not (no_higher a l) ≡ ltb l (positive_part 32 a)
unfolding no_higher
above_line a l h =
    let w = word_parts l h in
    rw (w.0, w.1, not_leb) (go (positive_part 32 a) (negative_part 32 a) (one_part a))
  where
    go : (A N : ℕ) → (0 < N → A ≡ 0) → ltb (l + N) (A + 0) ≡ ltb l A
    go A zero f = same_ltb (l + 0) (A + 0) l A (λ s. omega arith) (λ s. omega arith)
    go A (suc N) f = let z = f (omega arith) in same_ltb (l + suc N) (A + 0) l A (λ s. omega arith) (λ s. omega arith)

-- component 8 has no negative bid
below_line : (a l : ℕ) → l ≤ highest_other_bid → a ≤ highest_other_bid → not (no_higher l a) ≡ ltb (positive_part 32 a) l
unfolding no_higher
below_line a l h k =
    let w = word_parts l h in
    let v = word_parts a k in
    rw (w.0, w.1, v.0, v.1, not_leb) (same_ltb (a + 0) (l + 0) a l (λ s. omega arith) (λ s. omega arith))

-- ---- the bid's range

abbrev AtMost : (a k : ℕ) → Type 0
AtMost a k = bid_in_range k a ≡ true → positive_part 32 a ≤ highest_bid k

at_most : (a k : ℕ) → k ≤ 8 → AtMost a k
unfolding bid_in_range
at_most a =
    by_component (AtMost a) (within_positive 32 highest_price_bid a) (within_positive 32 highest_price_bid a) (few highest_price_bid) (few highest_other_bid) (few highest_other_bid)
    (few highest_other_bid) (few highest_other_bid) (few highest_other_bid) (few highest_other_bid)
  where
    few : (n : ℕ) → leb a n ≡ true → positive_part 32 a ≤ n
    few n e = let l = leb-true a n e in omega (arith, positive_le a)

abbrev InRange : (l k : ℕ) → Type 0
InRange l k = l ≤ highest_bid k → bid_in_range k l ≡ true

in_range : (l k : ℕ) → k ≤ 8 → InRange l k
unfolding bid_in_range within
in_range l =
    by_component (InRange l) signed signed (le-leb l highest_price_bid) (le-leb l highest_other_bid) (le-leb l highest_other_bid)
    (le-leb l highest_other_bid) (le-leb l highest_other_bid) (le-leb l highest_other_bid) (le-leb l highest_other_bid)
  where
    signed : l ≤ highest_price_bid → (leb (positive_part 32 l) highest_price_bid && leb (negative_part 32 l) highest_price_bid) ≡ true
    signed h = let w = word_parts l (omega arith) in rw (w.0, w.1, le-leb l highest_price_bid h)

cut_le : (k r market : ℕ) (tight : Bool) (p H : ℕ) → line_of k r market tight p H ≤ highest_other_bid
unfolding line_of
cut_le k r market tight p H = go (open_line k r market tight p H) (leb k 2)
  where
    go : (l : ℕ) (b : Bool) → min l (cond b highest_price_bid highest_other_bid) ≤ highest_other_bid
    go l true = omega arith
    go l false = omega arith

-- ---- the line

module _ (r a market : ℕ) (tight : Bool) (p H : ℕ) where
  abbrev Splits : ℕ → Type 0
  Splits k =
      reference_in_range k r ≡ true → bid_in_range k a ≡ true
      → bid_test k r a market tight p H 0 ≡ not (good_side k a (line_of k r market tight p H))

  -- the components whose bids fail above their line
  upper : (k : ℕ) → k ≤ 8 → eqb k 8 ≡ false → Splits k
  unfolding good_side line_of crosses over_sum
  upper k h e reference fits =
      bid_crosses r a market tight p H 0 k h
      ∙ rw (e, above_line a (line_of k r market tight p H) (cut_le k r market tight p H), and-false, and-false, or-false)
      (go (open_line k r market tight p H) (positive_part 32 a) (highest_bid k) (at_most a k h fits))
    where
      go : (o A n : ℕ) → A ≤ n → ltb o A ≡ ltb (min o n) A
      go o A n l = same_ltb o A (min o n) A (λ s. omega arith) (λ s. omega arith)

  lower : Splits 8
  unfolding good_side line_of crosses reference_in_range bid_in_range is_time open_line maximum_line threshold_of
  lower reference fits =
      let n = leb-true r highest_other_reference reference in
      bid_crosses r a market tight p H 0 8 (omega arith)
      ∙ rw (below_line a (line_of 8 r market tight p H) (cut_le 8 r market tight p H) (leb-true a highest_other_bid fits))
      (same_ltb (positive_part 32 a) (maximum_line (threshold_of 8) r) (positive_part 32 a) (min (maximum_line (threshold_of 8) r) highest_other_bid) (λ s. omega arith) (λ s. omega arith))

  line_splits : (k : ℕ) → k ≤ 8 → Splits k
  line_splits =
      by_component Splits (upper 0 (omega arith) refl) (upper 1 (omega arith) refl) (upper 2 (omega arith) refl) (upper 3 (omega arith) refl)
      (upper 4 (omega arith) refl) (upper 5 (omega arith) refl) (upper 6 (omega arith) refl) (upper 7 (omega arith) refl) lower

-- as a word it has no sign
pub not_negative : (k r market : ℕ) (tight : Bool) (p H : ℕ) → negative_part 32 (line_of k r market tight p H) ≡ 0
not_negative k r market tight p H = (word_parts (line_of k r market tight p H) (cut_le k r market tight p H)).1

itself : (k l : ℕ) → not (good_side k l l) ≡ false
unfolding good_side no_higher
itself k l = go (eqb k 8) (le-leb (positive_part 32 l + negative_part 32 l) (positive_part 32 l + negative_part 32 l) (omega arith))
  where
    go : (b : Bool) {x : Bool} → x ≡ true → not (cond b x x) ≡ false
    go true e = rw e
    go false e = rw e

-- the theorem: for all nine components alike
pub is_line : (k r market : ℕ) (tight : Bool) (p H : ℕ) → k ≤ 8 → reference_in_range k r ≡ true
    → IsLine k r market tight p H (line_of k r market tight p H)
unfolding line_of
is_line k r market tight p H h reference =
    let fits : bid_in_range k (line_of k r market tight p H) ≡ true = in_range (line_of k r market tight p H) k h (omega arith) in
    record {
      in_range = fits;
      passes = line_splits r (line_of k r market tight p H) market tight p H k h reference fits ∙ itself k (line_of k r market tight p H);
      splits = λ a. line_splits r a market tight p H k h reference;
    }

-- arguments that are not refused
arguments : (k r market p H : ℕ) → bad_line k r market p H ≡ false → (k ≤ 8) × (reference_in_range k r ≡ true)
unfolding bad_line bad_reference
arguments k r market p H e =
    let c : ltb 8 k ≡ false = or_l (ltb 8 k) _ (or_l _ (bad_unit market p H) e) in
    let f : bad_reference k r ≡ false = or_r (ltb 8 k) _ (or_l _ (bad_unit market p H) e) in
    let h = ltb-false 8 k c in
    (h, not-false _ (sym (ap (λ (b : Bool). b && not (reference_in_range k r)) (le-leb k 8 h)) ∙ f))

-- and in range none is
pub line_given : (k r market : ℕ) (tight : Bool) (p H : ℕ) → k ≤ highest_component → reference_in_range k r ≡ true → market ≤ highest_market
    → p ≤ highest_average_price → H ≤ most_constrained_hours → line_answer k r market tight p H ≡ given (line_of k r market tight p H)
unfolding line_answer bad_line bad_reference bad_unit
line_given k r market tight p H component reference h price hours =
    rw (
      le-ltb highest_component k component,
      reference,
      and-false,
      le-ltb highest_market market h,
      le-ltb highest_average_price p price,
      le-ltb most_constrained_hours H hours,
    )

-- every figure given is the line
pub promised : (k r market : ℕ) (tight : Bool) (p H : ℕ) → Promised k r market tight p H (line_answer k r market tight p H)
unfolding line_answer
promised k r market tight p H l = go (bad_line k r market p H) refl
  where
    figure : Answer → ℕ
    figure (refused n) = 0
    figure (given x) = x

    refused_by : Answer → ℕ
    refused_by (refused n) = n
    refused_by (given x) = 0

    go : (b : Bool) → bad_line k r market p H ≡ b → cond b (refused 16) (given (line_of k r market tight p H)) ≡ given l → IsLine k r market tight p H l
    go true f e = absurd (suc-ne-zero _ (ap refused_by e))
    go false f e =
        let x = arguments k r market p H f in
        subst (IsLine k r market tight p H) (ap figure e) (is_line k r market tight p H x.0 x.1)

-- the same of the call's result
pub answer_promised : (f : Result ℕ Refusal) (k r market : ℕ) (tight : Bool) (p H : ℕ) → f ≡ figure_of (line_answer k r market tight p H)
    → Promised k r market tight p H (figure_answer f)
answer_promised f k r market tight p H e l g =
    promised k r market tight p H l (sym (figure_answered (line_answer k r market tight p H)) ∙ sym (ap figure_answer e) ∙ g)

-- ---- the sum of the three times flags bids on the good side, and nothing else does

module _ (r a market : ℕ) (tight : Bool) (p H total : ℕ) where
  abbrev Both : (l k : ℕ) → Type 0
  Both l k = crosses k r a l total ≡ (crosses k r a l 0 || over_sum k r a total)

  both : (l k : ℕ) → k ≤ 8 → Both l k
  unfolding crosses is_time over_sum
  both l =
      by_component (Both l) (simp or-false) (simp or-false) (simp or-false) (simp or-false)
      (simp (or-false, and-false)) (simp (or-false, and-false)) (simp (or-false, and-false)) (simp or-false) (simp or-false)

  pub beside_sum : (k : ℕ) → k ≤ 8 → bid_test k r a market tight p H total ≡ (bid_test k r a market tight p H 0 || over_sum k r a total)
  beside_sum k h =
      bid_crosses r a market tight p H total k h
      ∙ both (open_line k r market tight p H) k h
      ∙ sym (ap (λ (b : Bool). b || over_sum k r a total) (bid_crosses r a market tight p H 0 k h))

-- ---- and no other figure is the line

word_same : (x y : ℕ) → x < 2 ^ 32 → y < 2 ^ 32 → no_higher x y ≡ true → no_higher y x ≡ true → x ≡ y
unfolding no_higher positive_part negative_part
word_same x y h k e f = go (ltb x (2 ^ 31)) (ltb y (2 ^ 31)) (leb-true _ _ e) (leb-true _ _ f)
  where
    go : (b c : Bool) → cond b x 0 + cond c 0 (2 ^ 32 - y) ≤ cond c y 0 + cond b 0 (2 ^ 32 - x)
        → cond c y 0 + cond b 0 (2 ^ 32 - x) ≤ cond b x 0 + cond c 0 (2 ^ 32 - y) → x ≡ y
    go true true s t = omega arith
    go true false s t = omega arith
    go false true s t = omega arith
    go false false s t = omega arith

-- the promise leaves a call one word to answer
pub one_line : (k r market : ℕ) (tight : Bool) (p H l l' : ℕ) → l < 2 ^ 32 → l' < 2 ^ 32
    → IsLine k r market tight p H l → IsLine k r market tight p H l' → l ≡ l'
unfolding good_side
one_line k r market tight p H l l' h h' x y =
    go (eqb k 8)
    (not-false _ (sym (x.splits l' y.in_range) ∙ y.passes))
    (not-false _ (sym (y.splits l x.in_range) ∙ x.passes))
  where
    go : (b : Bool) → cond b (no_higher l l') (no_higher l' l) ≡ true → cond b (no_higher l' l) (no_higher l l') ≡ true → l ≡ l'
    go true e f = word_same l l' h h' e f
    go false e f = word_same l l' h h' f e

-- ---- every figure is below 2^32

module _ (r market : ℕ) (tight : Bool) (p H : ℕ) where
  abbrev Fits : ℕ → Type 0
  Fits k = reference_in_range k r ≡ true → open_line k r market tight p H < 2 ^ 32

  energy_le : (t : Threshold) → energy_line t r market tight p H ≤ lower_line t r
  unfolding energy_line
  energy_le t = go (clause_asked market tight H) (lower_line t r) (constrained_line r p H)
    where
      go : (b : Bool) (l c : ℕ) → cond b (min l c) l ≤ l
      go true l c = omega arith
      go false l c = omega arith

  pub open_below : (k : ℕ) → k ≤ 8 → Fits k
  unfolding reference_in_range open_line is_time lower_line percent_line time_line maximum_line threshold_of
  open_below =
      by_component Fits
      (λ e. let l = leb-true r highest_price_reference e in omega (arith, energy_le (threshold_of 0)))
      (λ e. let l = leb-true r highest_price_reference e in omega (arith, energy_le (threshold_of 1)))
      (λ e. let l = leb-true r highest_price_reference e in omega arith)
      (λ e. let l = leb-true r highest_other_reference e in omega arith)
      (λ e. let l = leb-true r highest_other_reference e in omega arith)
      (λ e. let l = leb-true r highest_other_reference e in omega arith)
      (λ e. let l = leb-true r highest_other_reference e in omega arith)
      (λ e. let l = leb-true r highest_other_reference e in omega arith)
      (λ e. let l = leb-true r highest_other_reference e in omega arith)

-- ---- the promise on bids: Real-Time, tight, Average Price 5,000, H 1,000, r 2,000

desk : IsLine 0 2000 1 true 5000 1000 2876
desk = promised 0 2000 1 true 5000 1000 2876 lines.constrained_2000

pub above_fails : bid_test 0 2000 2877 1 true 5000 1000 0 ≡ true
unfolding bid_in_range within positive_part negative_part good_side no_higher
above_fails = desk.splits 2877 refl

-- a bid of -40.00
pub negative_passes : bid_test 0 2000 (2 ^ 32 - 4000) 1 true 5000 1000 0 ≡ false
unfolding bid_in_range within positive_part negative_part good_side no_higher
negative_passes = desk.splits (2 ^ 32 - 4000) refl
