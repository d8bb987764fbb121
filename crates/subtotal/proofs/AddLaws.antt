-- The parts of a party-day add to its E.
use Prim.Native.Nat.{ℕ, suc, ◌+◌, ◌-◌, ◌*◌, ◌^◌, ◌<◌}
use mathlib.Core.Bool.{Bool, true, false, cond}
use mathlib.Core.List.{List}
use mathlib.Core.Path.{◌≡◌, refl, sym, ap, ap₂, ◌∙◌}
use native.Mathlib.Omega.{arith}
use lib.Dec.{ltb, eqb}
use lib.IntN.{pos, negsuc, sub_ℕ}
use borrow.Author.Tests.{ltb-true, ltb-false, eq-eqb, ne_eqb, lt-ltb}
use Rattle.binary.specs.Bounded.{bit_of}
use Rattle.binary.specs.Integers.{signed, word}
use Rattle.binary.specs.Word.{positive_part, negative_part}
use Rattle.binary.proofs.BoundedLaws.{sum_same}
use Rattle.binary.proofs.IntegerLaws.{less_sum, signed_of_word}
use Rattle.binary.proofs.WordLaws.{within_positive, within_negative}
use Rattle.calls.specs.Answers.{given}
use Rattle.casefile.specs.Case.{Case}
use Rattle.casefile.specs.Decode.{decode}
use Rattle.casefile.specs.Lookup.{together}
use Rattle.limits.specs.Refusal.{refusal}
use Rattle.limits.proofs.AcceptedLaws as case
use Rattle.party_runs.proofs.PartyLaws.{together_fields, together_refl, any_together}
use Rattle.conduct.specs.Flags.{sum_together, fuel_flag}
use Rattle.sanctions.specs.Penalties.{party_day_sum, party_day_e, energy_part, gain, loss}
use Rattle.sanctions.proofs.EnergyLaws.{gain_less_loss}
use Rattle.penalty_terms.specs.ByCalls.{signed_word}
use Rattle.penalty_terms.proofs.CallLaws.{fuel_call}
use Rattle.penalty_terms.proofs.PartyBounds.{energy_most}
use Rattle.subtotal.specs.Subtotal.{subtotal_of, is_fuel_event, subtotal_answer}
use Rattle.subtotal.specs.AddToE.{PartGiven, AddToE}
use Rattle.subtotal.proofs.PartLaws.{own_less}

-- ---- any case

module _ (c : Case) (i : ℕ) where
  -- the union hours are those of every event of the party-day
  union_same : (j h : ℕ) → together c i j ≡ true → fuel_flag c j h ≡ fuel_flag c i h
  unfolding fuel_flag
  union_same j h t = any_together c i j (λ m. bit_of (c.events.P m) h) t

  part_same : (part : ℕ → ℕ) (j : ℕ) → together c i j ≡ true → energy_part part c j j ≡ energy_part part c i j
  unfolding energy_part
  part_same part j t = ap (λ (x : ℕ). 10 * part (c.events.Q j) + x) (sum_same (c.events.hours j) _ _ (λ h m. rw (union_same j h t)))

  in_sum : (j : ℕ)
      → cond (together c i j) (subtotal_of c j) (pos 0)
      ≡ sub_ℕ (cond (together c i j) (energy_part (positive_part 32) c i j) 0) (cond (together c i j) (energy_part (negative_part 32) c i j) 0)
  in_sum j = go (together c i j) refl
    where
      go : (t : Bool) → together c i j ≡ t
          → cond t (subtotal_of c j) (pos 0) ≡ sub_ℕ (cond t (energy_part (positive_part 32) c i j) 0) (cond t (energy_part (negative_part 32) c i j) 0)
      go true t = own_less c j ∙ ap₂ sub_ℕ (part_same (positive_part 32) j t) (part_same (negative_part 32) j t)
      go false t = refl

  added_less : party_day_sum c i (subtotal_of c) ≡ sub_ℕ (gain c i) (loss c i)
  unfolding party_day_sum gain loss sum_together
  added_less = less_sum c.events.count _ _ _ in_sum

  -- acceptance is not needed for this
  pub parts_add : party_day_sum c i (subtotal_of c) ≡ party_day_e c i
  parts_add = added_less ∙ sym (gain_less_loss c i)

-- ---- an accepted case

module _ (f k : List ℕ) (n : ℕ) (h : refusal f k n ≡ 0) where
  abbrev c : Case
  c = decode f

  module _ (j : ℕ) (l : j < c.events.count) (kind : c.events.kind j ≡ 3) where
    answered : subtotal_answer f j ≡ given (word 64 (subtotal_of c j))
    unfolding subtotal_answer is_fuel_event
    answered = rw (eq-eqb _ _ (case.alone f k n h), lt-ltb _ _ l, eq-eqb _ 3 kind)

    valued : signed 64 (word 64 (subtotal_of c j)) ≡ subtotal_of c j
    valued =
        rw (own_less c j)
        (signed_of_word 64 (energy_part (positive_part 32) c j j) (energy_part (negative_part 32) c j j) (omega arith)
        (omega (arith, energy_most f k n h j kind (positive_part 32) (within_positive 32) j l (together_refl c j)))
        (omega (arith, energy_most f k n h j kind (negative_part 32) (within_negative 32) j l (together_refl c j))))

    part_given : PartGiven f j
    part_given = record { answer = answered; value = valued }

-- the word of a difference is that of its two parts
word_is : (x y : ℕ) → word 64 (sub_ℕ x y) ≡ signed_word (x - y) (y - x)
unfolding word signed_word
word_is x y = go (ltb x y) refl
  where
    go : (t : Bool) → ltb x y ≡ t → word 64 (cond t (negsuc (y - suc x)) (pos (x - y))) ≡ cond (eqb (y - x) 0) (x - y) (2 ^ 64 - (y - x))
    go true t =
        let l = ltb-true x y t in
        let z : y - x ≡ 0 → ⊥ = λ e. omega arith in
        rw (ne_eqb _ _ z) (omega arith)
    go false t =
        let l = ltb-false x y t in
        let z : y - x ≡ 0 = omega arith in
        rw z refl

pub add_to_e : AddToE
add_to_e f k n i h l kind =
    record {
      each = λ j m t. part_given f k n h j m ((together_fields (decode f) i j t).kind ∙ kind);
      sum = parts_add (decode f) i;
      penalty_of = λ low. rw (added_less (decode f) i, word_is (gain (decode f) i) (loss (decode f) i)) (fuel_call f k n h i l kind low);
    }
