-- Every multiplier and penalty of a case in its ranges is small enough for its field of the row.
use Prim.Native.Nat.{ℕ, ◌+◌, ◌-◌, ◌*◌, ◌≤◌, ◌<◌, zero-le}
use mathlib.Core.Bool.{Bool, cond, ◌&&◌}
use mathlib.Core.Path.{◌≡◌, ◌∙◌}
use native.Mathlib.Nat.{mul-le-mul, mul-le-mul_right, sub-le}
use native.Mathlib.Omega.{arith}
use lib.Dec.{T, ltb, eqb, eqb→eq}
use Rattle.binary.specs.Bounded.{sum_to}
use Rattle.binary.specs.Word.{positive_part, negative_part}
use Rattle.binary.proofs.Implies.{cond_bound, and_left}
use Rattle.binary.proofs.BoundedLaws.{sum_bound}
use Rattle.tariff.specs.SanctionRules.{cents, ladder, withheld_penalty, dispatch_penalty, fuel_charge, fuel_penalty}
use Rattle.tariff.proofs.LadderLaws.{ladder_halves}
use Rattle.tariff.specs.Ranges.{highest_capability, highest_price, highest_revenue, highest_energy, highest_price_change, highest_fuel_money}
use Rattle.casefile.specs.Layout.{most_hours, most_events}
use Rattle.casefile.specs.Case.{Case}
use Rattle.casefile.specs.Lookup.{together}
use Rattle.conduct.specs.Flags.{sum_together, fuel_flag, flagged}
use Rattle.sanctions.specs.Penalties.{flagged_with_impact, is_instance, instances, withheld_multiplier, withheld_amount, withheld_penalty_of, dispatch_multiplier, dispatch_revenue, dispatch_penalty_of, energy_part, gain, loss, tcc_change, lowest_unit, fuel_multiplier_after, fuel_penalty_under, fuel_multiplier, fuel_penalty_of, multiplier, penalty}
use Rattle.sanctions.specs.StageGiven.{highest_penalty}

-- the ranges of an accepted case that its penalties depend on
pub record Ranges (c : Case) : Type 0 where
  pub count : c.events.count ≤ most_events
  pub hours : (i : ℕ) → c.events.hours i ≤ most_hours
  pub withheld : (i h : ℕ) → i < c.events.count → h < c.events.hours i → c.events.kind i ≡ 1
      → (c.a i h ≤ highest_capability) × (positive_part 32 (c.events.b i h) ≤ highest_price)
  pub dispatch : (i h : ℕ) → i < c.events.count → h < c.events.hours i → c.events.kind i ≡ 2
      → c.events.b i h ≤ highest_revenue
  pub fuel : (i h : ℕ) → i < c.events.count → h < c.events.hours i → c.events.kind i ≡ 3
      → (c.a i h ≤ highest_energy) × (positive_part 32 (c.events.b i h) ≤ highest_price_change)
  pub money : (i : ℕ) → i < c.events.count → c.events.kind i ≡ 3
      → (positive_part 32 (c.events.Q i) ≤ highest_fuel_money) × (positive_part 32 (c.events.R i) ≤ highest_fuel_money)

-- an event's part of the gain, a party-day's gain, and T
abbrev event_gain : ℕ
event_gain = 10 * highest_fuel_money + most_hours * (highest_energy * highest_price_change)

abbrev day_gain : ℕ
day_gain = most_events * event_gain

abbrev day_tcc : ℕ
day_tcc = most_events * highest_fuel_money

ladder_bound : (n k : ℕ) → ladder n k ≤ 6
ladder_bound = ladder_halves (λ m. m ≤ 6) (omega arith) (omega arith) (omega arith) (omega arith)

after_bound : (prior : Bool) → fuel_multiplier_after prior ≤ 6
unfolding fuel_multiplier_after
after_bound prior = cond_bound prior (λ _. omega arith) (λ _. omega arith)

fuel_bound : (M gain loss T : ℕ) → M ≤ 6 → gain ≤ day_gain → T ≤ day_tcc → fuel_penalty M gain loss T ≤ highest_penalty
unfolding fuel_penalty fuel_charge cents
fuel_bound M gain loss T f g h =
    let p = mul-le-mul f g in
    let d = sub-le (M * gain + 20 * T) (M * loss) in
    cond_bound (ltb (M * gain + 20 * T - M * loss) 10000000) (λ _. zero-le) (λ _. omega arith)

pub same_kind : (c : Case) (i j : ℕ) → T (together c i j) → c.events.kind j ≡ c.events.kind i
unfolding together
same_kind c i j t = eqb→eq (c.events.kind j) (c.events.kind i) (search and_left)

module _ (c : Case) where
  withheld_multiplier_holds : (i : ℕ) → withheld_multiplier c i ≤ 6
  unfolding withheld_multiplier
  withheld_multiplier_holds i = cond_bound (is_instance c i) (λ _. ladder_bound (instances c 2 i) (instances c 1 i)) (λ _. zero-le)

  dispatch_multiplier_holds : (i : ℕ) → dispatch_multiplier c i ≤ 6
  unfolding dispatch_multiplier
  dispatch_multiplier_holds i = cond_bound (flagged_with_impact c i) (λ _. omega arith) (λ _. zero-le)

  fuel_multiplier_holds : (i : ℕ) → fuel_multiplier c i ≤ 6
  unfolding fuel_multiplier
  fuel_multiplier_holds i = after_bound _

  pub multiplier_bound : (i : ℕ) → multiplier c i ≤ 6
  unfolding multiplier
  multiplier_bound i =
      cond_bound (eqb (c.events.kind i) 1) (λ _. withheld_multiplier_holds i)
      (λ _. cond_bound (eqb (c.events.kind i) 2) (λ _. dispatch_multiplier_holds i)
      (λ _. cond_bound (eqb (c.events.kind i) 3 && lowest_unit c i) (λ _. fuel_multiplier_holds i) (λ _. zero-le)))

  module _ (r : Ranges c) where
    -- a day's sum of figures
    hours_bound : (i b : ℕ) (figure : ℕ → ℕ) → ((h : ℕ) → h < c.events.hours i → figure h ≤ b)
        → sum_to (c.events.hours i) figure ≤ most_hours * b
    hours_bound i b figure f =
        let s = sum_bound (c.events.hours i) figure b f in
        let n = mul-le-mul_right b (r.hours i) in
        omega arith

    -- a party-day's sum of figures
    together_bound : (i b : ℕ) (figure : ℕ → ℕ) → ((j : ℕ) → j < c.events.count → c.events.kind j ≡ c.events.kind i → figure j ≤ b)
        → sum_together c i figure ≤ most_events * b
    unfolding sum_together
    together_bound i b figure f =
        let s : sum_to c.events.count (λ j. cond (together c i j) (figure j) 0) ≤ c.events.count * b =
        sum_bound c.events.count _ b (λ j l. cond_bound (together c i j) (λ t. f j l (same_kind c i j t)) (λ _. zero-le)) in
        let n = mul-le-mul_right b r.count in
        omega arith

    withheld_penalty_holds : (i : ℕ) → i < c.events.count → c.events.kind i ≡ 1 → withheld_penalty_of c i ≤ highest_penalty
    unfolding withheld_penalty_of withheld_amount withheld_penalty cents
    withheld_penalty_holds i li k =
        let s : withheld_amount c i ≤ most_hours * (highest_capability * highest_price) =
        hours_bound i (highest_capability * highest_price) _
        (λ h lh. cond_bound (flagged c i h) (λ _. mul-le-mul (r.withheld i h li lh k).0 (r.withheld i h li lh k).1) (λ _. zero-le)) in
        let p = mul-le-mul (withheld_multiplier_holds i) s in
        omega arith

    dispatch_penalty_holds : (i : ℕ) → i < c.events.count → c.events.kind i ≡ 2 → dispatch_penalty_of c i ≤ highest_penalty
    unfolding dispatch_penalty_of dispatch_revenue dispatch_penalty cents
    dispatch_penalty_holds i li k =
        let s : dispatch_revenue c i ≤ most_hours * highest_revenue =
        hours_bound i highest_revenue _ (λ h lh. cond_bound (flagged c i h) (λ _. r.dispatch i h li lh k) (λ _. zero-le)) in
        cond_bound (flagged_with_impact c i) (λ _. omega arith) (λ _. zero-le)

    gain_bound : (i : ℕ) → c.events.kind i ≡ 3 → gain c i ≤ day_gain
    unfolding gain energy_part
    gain_bound i k =
        together_bound i event_gain (energy_part (positive_part 32) c i)
        (λ j lj e.
        let q = (r.money j lj (e ∙ k)).0 in
        let z : sum_to (c.events.hours j) (λ h. cond (fuel_flag c i h) (c.a j h * positive_part 32 (c.events.b j h)) 0)
        ≤ most_hours * (highest_energy * highest_price_change) =
        hours_bound j (highest_energy * highest_price_change) _
        (λ h lh. cond_bound (fuel_flag c i h)
        (λ _. mul-le-mul (r.fuel j h lj lh (e ∙ k)).0 (r.fuel j h lj lh (e ∙ k)).1) (λ _. zero-le)) in
        omega arith)

    tcc_bound : (i : ℕ) → c.events.kind i ≡ 3 → tcc_change c i ≤ day_tcc
    unfolding tcc_change
    tcc_bound i k =
        let s = together_bound i highest_fuel_money (λ j. positive_part 32 (c.events.R j)) (λ j lj e. (r.money j lj (e ∙ k)).1) in
        let d = sub-le (sum_together c i (λ j. positive_part 32 (c.events.R j))) (sum_together c i (λ j. negative_part 32 (c.events.R j))) in
        omega arith

    fuel_penalty_holds : (i : ℕ) → c.events.kind i ≡ 3 → fuel_penalty_of c i ≤ highest_penalty
    unfolding fuel_penalty_of fuel_penalty_under
    fuel_penalty_holds i k = fuel_bound _ _ (loss c i) _ (fuel_multiplier_holds i) (gain_bound i k) (tcc_bound i k)

    pub penalty_bound : (i : ℕ) → i < c.events.count → penalty c i ≤ highest_penalty
    unfolding penalty
    penalty_bound i li =
        cond_bound (eqb (c.events.kind i) 1) (λ t. withheld_penalty_holds i li (eqb→eq _ 1 t))
        (λ _. cond_bound (eqb (c.events.kind i) 2) (λ t. dispatch_penalty_holds i li (eqb→eq _ 2 t))
        (λ _. cond_bound (eqb (c.events.kind i) 3 && lowest_unit c i)
        (λ t. fuel_penalty_holds i (eqb→eq _ 3 (and_left (eqb (c.events.kind i) 3) (lowest_unit c i) t))) (λ _. zero-le)))
