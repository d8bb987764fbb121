-- E is gain less loss, and so is each event's part of it.
use Prim.Native.Nat.{ℕ, zero, suc, ◌+◌, ◌*◌, ◌≤◌}
use mathlib.Core.Bool.{Bool, true, false, cond}
use mathlib.Core.Path.{◌≡◌, refl, ◌∙◌, ap, ap₂, subst}
use native.Mathlib.Omega.{arith}
use lib.IntN.{ℤ, pos, sub_ℕ, ◌+ℤ◌, ◌*ℤ◌}
use Rattle.binary.specs.Bounded.{sum_to}
use Rattle.std.specs.Prelude.{◌≤ℤ◌}
use Rattle.binary.specs.Integers.{signed, sum_ℤ_to}
use Rattle.binary.specs.Word.{positive_part, negative_part}
use Rattle.binary.proofs.IntegerLaws.{less_plus, less_times, less_where, less_sum, at_least}
use Rattle.casefile.specs.Case.{Case}
use Rattle.casefile.specs.Lookup.{together}
use Rattle.conduct.specs.Flags.{sum_together, fuel_flag}
use Rattle.sanctions.specs.Penalties.{party_day_sum, party_day_e, energy_part, gain, loss}

-- ten times one sum and another, in one sum
one_more : (s t u : ℕ) (p : Bool) (x y : ℕ) → 10 * s + t ≡ u → 10 * (s + cond p x 0) + (t + cond p y 0) ≡ u + cond p (10 * x + y) 0
one_more s t u true x y e = omega arith
one_more s t u false x y e = omega arith

both : (n : ℕ) (b : ℕ → Bool) (x y : ℕ → ℕ)
    → 10 * sum_to n (λ j. cond (b j) (x j) 0) + sum_to n (λ j. cond (b j) (y j) 0) ≡ sum_to n (λ j. cond (b j) (10 * x j + y j) 0)
unfolding sum_to
both zero b x y = refl
both (suc n) b x y = one_more _ _ _ (b n) (x n) (y n) (both n b x y)

module _ (c : Case) (i : ℕ) where
  -- of the two parts of signed words
  sum_less : (f : ℕ → ℤ) (x y : ℕ → ℕ) → ((j : ℕ) → f j ≡ sub_ℕ (x j) (y j))
      → party_day_sum c i f ≡ sub_ℕ (sum_together c i x) (sum_together c i y)
  unfolding party_day_sum sum_together
  sum_less f x y e =
      less_sum c.events.count _ _ _
      (λ j. ap (λ (z : ℤ). cond (together c i j) z (pos 0)) (e j) ∙ less_where (together c i j) (x j) (y j))

  -- Q of event j, and a × b over its union hours, by a part of signed words
  guarantee_part : (part : ℕ → ℕ) (j : ℕ) → ℕ
  guarantee_part part j = part (c.events.Q j)

  hours_part : (part : ℕ → ℕ) (j : ℕ) → ℕ
  hours_part part j = sum_to (c.events.hours j) (λ h. cond (fuel_flag c i h) (c.a j h * part (c.events.b j h)) 0)

  guarantee_less : (j : ℕ) → signed 32 (c.events.Q j) ≡ sub_ℕ (guarantee_part (positive_part 32) j) (guarantee_part (negative_part 32) j)
  unfolding guarantee_part signed
  guarantee_less j = refl

  hours_less : (j : ℕ)
      → sum_ℤ_to (c.events.hours j) (λ h. cond (fuel_flag c i h) (pos (c.a j h) *ℤ signed 32 (c.events.b j h)) (pos 0))
      ≡ sub_ℕ (hours_part (positive_part 32) j) (hours_part (negative_part 32) j)
  unfolding hours_part signed
  hours_less j =
      less_sum (c.events.hours j) _ _ _
      (λ h. ap (λ (z : ℤ). cond (fuel_flag c i h) z (pos 0)) (less_times (c.a j h) (positive_part 32 (c.events.b j h)) (negative_part 32 (c.events.b j h)))
      ∙ less_where (fuel_flag c i h) (c.a j h * positive_part 32 (c.events.b j h)) (c.a j h * negative_part 32 (c.events.b j h)))

  -- event j's part of E
  pub part_less : (j : ℕ)
      → pos 10 *ℤ signed 32 (c.events.Q j)
      +ℤ sum_ℤ_to (c.events.hours j) (λ h. cond (fuel_flag c i h) (pos (c.a j h) *ℤ signed 32 (c.events.b j h)) (pos 0))
      ≡ sub_ℕ (energy_part (positive_part 32) c i j) (energy_part (negative_part 32) c i j)
  unfolding energy_part guarantee_part hours_part
  part_less j =
      ap₂ ◌+ℤ◌
      (ap (λ (z : ℤ). pos 10 *ℤ z) (guarantee_less j) ∙ less_times 10 (guarantee_part (positive_part 32) j) (guarantee_part (negative_part 32) j))
      (hours_less j)
      ∙ less_plus (10 * guarantee_part (positive_part 32) j) (10 * guarantee_part (negative_part 32) j) (hours_part (positive_part 32) j) (hours_part (negative_part 32) j)

  ten_times : (part : ℕ → ℕ)
      → 10 * sum_together c i (guarantee_part part) + sum_together c i (hours_part part) ≡ sum_together c i (energy_part part c i)
  unfolding sum_together energy_part guarantee_part hours_part
  ten_times part = both c.events.count (together c i) (guarantee_part part) (hours_part part)

  pub gain_less_loss : party_day_e c i ≡ sub_ℕ (gain c i) (loss c i)
  unfolding party_day_e gain loss
  gain_less_loss =
      ap₂ ◌+ℤ◌
      (ap (λ (z : ℤ). pos 10 *ℤ z) (sum_less _ (guarantee_part (positive_part 32)) (guarantee_part (negative_part 32)) guarantee_less)
      ∙ less_times 10 (sum_together c i (guarantee_part (positive_part 32))) (sum_together c i (guarantee_part (negative_part 32))))
      (sum_less _ (hours_part (positive_part 32)) (hours_part (negative_part 32)) hours_less)
      ∙ less_plus (10 * sum_together c i (guarantee_part (positive_part 32))) (10 * sum_together c i (guarantee_part (negative_part 32)))
      (sum_together c i (hours_part (positive_part 32))) (sum_together c i (hours_part (negative_part 32)))
      ∙ ap₂ sub_ℕ (ten_times (positive_part 32)) (ten_times (negative_part 32))

  -- 0 ≤ E says that the loss is at most the gain
  pub loss_at_most : pos 0 ≤ℤ party_day_e c i → loss c i ≤ gain c i
  loss_at_most h = at_least (gain c i) (loss c i) (subst (λ (z : ℤ). pos 0 ≤ℤ z) gain_less_loss h)
