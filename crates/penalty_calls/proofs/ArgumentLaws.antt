-- What an argument list that is not refused says of its numbers.
use Prim.Native.Nat.{ℕ, ◌*◌, ◌≤◌, ◌<◌}
use mathlib.Core.Bool.{false, not}
use mathlib.Core.List.{List}
use mathlib.Core.Path.{◌≡◌}
use borrow.Author.Tests.{ltb-false, eqb-true, not-false}
use lib.Dec.{ltb, eqb}
use lib.ListN.{length, get_or}
use Rattle.binary.specs.Bounded.{any_to}
use Rattle.binary.specs.Word.{positive_part, negative_part, within}
use Rattle.binary.proofs.BoundedLaws.{any_at, product_bound}
use Rattle.binary.proofs.Implies.{or_l, or_r}
use Rattle.binary.proofs.WordLaws.{within_positive, within_negative}
use Rattle.tariff.specs.Ranges.{highest_capability, highest_price, highest_revenue, highest_e, highest_t, highest_fuel_multiplier}
use Rattle.tariff.specs.DefaultBidRules.{day_hours}
use Rattle.penalty_calls.specs.SanctionCalls.{bad_hour, bad_hours, amount_at, bad_revenue, bad_revenues, revenue_at, bad_fuel}

hour_amount : (a b : List ℕ) (h : ℕ) → bad_hour a b h ≡ false → amount_at a b h ≤ highest_capability * highest_price
unfolding bad_hour amount_at
hour_amount a b h e =
    let p : ltb highest_capability (get_or a h 0) ≡ false = search or_l in
    let q : not (within 32 highest_price (get_or b h 0)) ≡ false = search (or_l, or_r) in
    product_bound _ _ highest_capability highest_price (ltb-false _ _ p) (within_positive 32 highest_price (get_or b h 0) (not-false _ q))

pub record Hours (a b : List ℕ) : Type 0 where
  pub same : length a ≡ length b
  pub few : length a ≤ day_hours
  pub amount : (h : ℕ) → h < length a → amount_at a b h ≤ highest_capability * highest_price

pub fine_hours : (a b : List ℕ) → bad_hours a b ≡ false → Hours a b
unfolding bad_hours
fine_hours a b e =
    let p : not (eqb (length a) (length b)) ≡ false = search (or_l, or_r) in
    let q : ltb day_hours (length a) ≡ false = search (or_l, or_r) in
    let r : any_to (length a) (bad_hour a b) ≡ false = search (or_l, or_r) in
    record {
      same = eqb-true _ _ (not-false _ p);
      few = ltb-false _ _ q;
      amount = λ h l. hour_amount a b h (any_at (length a) h (bad_hour a b) l r);
    }

pub record Revenues (b : List ℕ) : Type 0 where
  pub few : length b ≤ day_hours
  pub revenue : (h : ℕ) → h < length b → revenue_at b h ≤ highest_revenue

pub fine_revenues : (b : List ℕ) → bad_revenues b ≡ false → Revenues b
unfolding bad_revenues bad_revenue revenue_at
fine_revenues b e =
    let q : ltb day_hours (length b) ≡ false = search or_l in
    let r : any_to (length b) (bad_revenue b) ≡ false = search (or_l, or_r) in
    record { few = ltb-false _ _ q; revenue = λ h l. ltb-false _ _ (any_at (length b) h (bad_revenue b) l r) }

pub record FuelArguments (E T M : ℕ) : Type 0 where
  pub gain : positive_part 64 E ≤ highest_e
  pub loss : negative_part 64 E ≤ highest_e
  pub congestion : T ≤ highest_t
  pub multiplier : M ≤ highest_fuel_multiplier

pub fuel_arguments : (E T M : ℕ) → bad_fuel E T M ≡ false → FuelArguments E T M
unfolding bad_fuel
fuel_arguments E T M h =
    let e : not (within 64 highest_e E) ≡ false = search (or_l, or_r) in
    let t : ltb highest_t T ≡ false = search (or_l, or_r) in
    let m : ltb highest_fuel_multiplier M ≡ false = search (or_l, or_r) in
    record {
      gain = within_positive 64 highest_e E (not-false _ e);
      loss = within_negative 64 highest_e E (not-false _ e);
      congestion = ltb-false _ _ t;
      multiplier = ltb-false _ _ m;
    }
