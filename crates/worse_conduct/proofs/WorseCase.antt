-- Demand 3 on decoded cases: what the changes leave of a case, and that no figure of the worse case is smaller.
use Prim.Native.Nat.{ℕ, zero, suc, ◌+◌, ◌*◌, ◌≤◌, ◌<◌}
use mathlib.Core.Bool.{Bool, true, false, cond, ◌&&◌}
use mathlib.Core.Logic.{◌≢◌}
use mathlib.Core.Path.{◌≡◌, refl, sym, ◌∙◌, ap, subst, subst₃}
use native.Mathlib.Nat.{le_refl, le_trans, mul-le-mul_right, add-le-add}
use native.Mathlib.Decide.{dec_lt}
use native.Mathlib.Omega.{arith}
use lib.Dec.{eqb, leb→le, eqb→eq}
use Rattle.binary.specs.Bounded.{count_to, mask_to, bit_of}
use Rattle.binary.specs.Word.{positive_part, negative_part}
use Rattle.binary.proofs.Implies.{◌⇒◌, mono, keep, and_given, or_mono, ltb_mono, cond_mono, cond_le, cond_same, count_le, choice_le, and_left, and_right, T→true, true→T}
use Rattle.binary.proofs.BoundedLaws.{sum_mono, sum_same, count_mono, any_mono, any_count}
use Rattle.binary.proofs.MaskLaws.{bit_mask, bit_past, mask_lt}
use Rattle.tariff.proofs.LadderLaws.{ladder_mono}
use Rattle.tariff.proofs.RuleLaws.{increase_mono, bid_mono, withheld_mono, dispatch_mono, withheld_penalty_mono, dispatch_penalty_mono, fuel_penalty_mono}
use Rattle.casefile.specs.Case.{Units, References, Violation, Past, Events, Case}
use Rattle.casefile.specs.Lookup.{unit_of, group_of, reference_of, together}
use Rattle.conduct.specs.Flags.{tight, sum_together, time_bid, time_total, bid_flag, group_capability, group_sum, withheld_flag, dispatch_flag, fuel_flag, flagged, flag_mask}
use Rattle.sanctions.specs.Penalties.{flagged_with_impact, is_instance, counts_here, counts_past, instances, withheld_multiplier, withheld_amount, withheld_penalty_of, dispatch_multiplier, dispatch_revenue, dispatch_penalty_of, energy_part, gain, loss, tcc_change, lowest_unit, counts_fuel, past_fuel, fuel_stands, fuel_multiplier_after, fuel_penalty_under, prior_fuel, fuel_multiplier, fuel_penalty_of, multiplier, penalty, total_penalty}
use Rattle.sanctions.proofs.PenaltyBounds.{same_kind}
use Rattle.sanctions.proofs.InstanceLaws.{instances_positive}
use Rattle.sanctions.proofs.EnergyLaws.{loss_at_most}
use Rattle.worse_conduct.specs.Promise.{EnergyNotNegative}

-- what the changes do to the cells' a: no MW of kinds 1 and 2 is lowered, fuel is left, no bid is moved back
pub record WorseAmounts (e : Events) (a a' : ℕ → ℕ → ℕ) : Type 0 where
  pub withheld : (i h : ℕ) → 1 ≤ e.kind i → e.kind i ≤ 2 → a i h ≤ a' i h
  pub fuel : (i h : ℕ) → e.kind i ≡ 3 → a i h ≡ a' i h
  pub higher : (i h : ℕ) → e.kind i ≡ 4 → e.component i ≢ 8 → positive_part 32 (a i h) ≤ positive_part 32 (a' i h)
  pub lower : (i h : ℕ) → e.kind i ≡ 4 → e.component i ≡ 8 → positive_part 32 (a' i h) ≤ positive_part 32 (a i h)

-- every test counts at least as many past entries
pub record MoreEntries (p p' : Past) : Type 0 where
  pub more : (t : Violation → Bool) → count_to p.count (λ j. t (p.entry j)) ≤ count_to p'.count (λ j. t (p'.entry j))

after_mono : {p p' : Bool} → p ⇒ p' → fuel_multiplier_after p ≤ fuel_multiplier_after p'
unfolding fuel_multiplier_after
after_mono f = choice_le f (omega arith)

-- two cases that share units, references and events but for the cells' a
module _ (u : Units) (r : References) (p p' : Past) (e : Events) (a a' : ℕ → ℕ → ℕ)
    (w : WorseAmounts e a a') (v : MoreEntries p p') where
  abbrev c : Case
  c = record { units = u; references = r; past = p; events = e; a = a }

  abbrev c' : Case
  c' = record { units = u; references = r; past = p'; events = e; a = a' }

  -- ---- flags

  sum_worse : (i h : ℕ) → 1 ≤ e.kind i → e.kind i ≤ 2 → group_sum c i h ≤ group_sum c' i h
  unfolding group_sum sum_together together group_of unit_of
  sum_worse i h f g =
      sum_mono e.count _ _
      λ j _. cond_le (together c i j)
      (λ t. let k = same_kind c i j t in w.withheld j h (omega arith) (omega arith))
      (λ _. le_refl 0)

  time_worse : (i h : ℕ) → time_total c i h ≤ time_total c' i h
  unfolding time_total time_bid reference_of
  time_worse i h =
      sum_mono e.count _ _
      λ j _. cond_le (time_bid c i j)
      (λ t. increase_mono (reference_of c j) (a j h) (a' j h)
      (w.higher j h (eqb→eq (e.kind j) 4 (search and_left))
      (let k : e.component j ≤ 6 = leb→le (e.component j) 6 (search and_right) in omega arith)))
      (λ _. le_refl 0)

  flag_kept : (i h : ℕ) → flagged c i h ⇒ flagged c' i h
  unfolding flagged withheld_flag dispatch_flag fuel_flag bid_flag tight unit_of group_of reference_of group_capability together
  flag_kept i h =
      cond_mono (eqb (e.kind i) 1)
      (λ t. withheld_mono _ _ _ _ _ _ _ (w.withheld i h (omega (arith, eqb→eq)) (omega (arith, eqb→eq)))
      (sum_worse i h (omega (arith, eqb→eq)) (omega (arith, eqb→eq))))
      (λ _. cond_mono (eqb (e.kind i) 2)
      (λ t. dispatch_mono _ _ _ _ _ _ (w.withheld i h (omega (arith, eqb→eq)) (omega (arith, eqb→eq)))
      (sum_worse i h (omega (arith, eqb→eq)) (omega (arith, eqb→eq))))
      (λ _. cond_mono (eqb (e.kind i) 3) (λ _. keep _)
      (λ _. cond_mono (eqb (e.kind i) 4)
      (λ t. bid_mono (e.component i) _ _ _ _ _ _ _ _ _ (time_worse i h)
      (w.higher i h (eqb→eq (e.kind i) 4 t)) (w.lower i h (eqb→eq (e.kind i) 4 t)))
      (λ _. keep false))))

  mask_kept : (i h : ℕ) → bit_of (flag_mask c i) h ≡ true → bit_of (flag_mask c' i) h ≡ true
  unfolding flag_mask
  mask_kept i h k = go (dec_lt h (e.hours i))
    where
      go : Dec (h < e.hours i) → bit_of (mask_to (e.hours i) (flagged c' i)) h ≡ true
      go (yes l) =
          bit_mask (e.hours i) h (flagged c' i) l
          ∙ T→true _ ((flag_kept i h).give (true→T _ (sym (bit_mask (e.hours i) h (flagged c i) l) ∙ k)))
      go (no l) =
          let z = bit_past (e.hours i) (mask_to (e.hours i) (flagged c i)) h (mask_lt (e.hours i) (flagged c i)) (omega arith) in
          absurd (true→T false (sym z ∙ k))

  -- ---- withheld and dispatch

  impact_kept : (i : ℕ) → flagged_with_impact c i ⇒ flagged_with_impact c' i
  unfolding flagged_with_impact
  impact_kept i =
      and_given (eqb (e.impact i) 1) (λ _. any_mono (e.hours i) (flagged c i) (flagged c' i) (λ h _. flag_kept i h))

  instance_kept : (i : ℕ) → is_instance c i ⇒ is_instance c' i
  unfolding is_instance
  instance_kept i = search (mono, impact_kept)

  instances_worse : (k i : ℕ) → instances c k i ≤ instances c' k i
  unfolding instances counts_here counts_past group_of unit_of
  instances_worse k i =
      add-le-add
      (add-le-add (le_refl 1)
      (count_mono i (counts_here c k i) (counts_here c' k i) (λ j _. search (mono, instance_kept))))
      (v.more (counts_past c k i))

  withheld_multiplier_holds : (i : ℕ) → withheld_multiplier c i ≤ withheld_multiplier c' i
  unfolding withheld_multiplier
  withheld_multiplier_holds i = count_le (instance_kept i) (ladder_mono (instances_positive c 2 i) (instances_worse 2 i) (instances_worse 1 i))

  withheld_amount_holds : (i : ℕ) → 1 ≤ e.kind i → e.kind i ≤ 2 → withheld_amount c i ≤ withheld_amount c' i
  unfolding withheld_amount
  withheld_amount_holds i f g =
      sum_mono (e.hours i) _ _
      (λ h _. count_le (flag_kept i h) (mul-le-mul_right (positive_part 32 (e.b i h)) (w.withheld i h f g)))

  withheld_penalty_holds : (i : ℕ) → 1 ≤ e.kind i → e.kind i ≤ 2 → withheld_penalty_of c i ≤ withheld_penalty_of c' i
  unfolding withheld_penalty_of
  withheld_penalty_holds i f g = withheld_penalty_mono _ _ _ _ (withheld_multiplier_holds i) (withheld_amount_holds i f g)

  dispatch_multiplier_holds : (i : ℕ) → dispatch_multiplier c i ≤ dispatch_multiplier c' i
  unfolding dispatch_multiplier
  dispatch_multiplier_holds i = count_le (impact_kept i) (le_refl 3)

  dispatch_revenue_holds : (i : ℕ) → dispatch_revenue c i ≤ dispatch_revenue c' i
  unfolding dispatch_revenue
  dispatch_revenue_holds i = sum_mono (e.hours i) _ _ (λ h _. count_le (flag_kept i h) (le_refl (e.b i h)))

  dispatch_penalty_holds : (i : ℕ) → dispatch_penalty_of c i ≤ dispatch_penalty_of c' i
  unfolding dispatch_penalty_of
  dispatch_penalty_holds i = count_le (impact_kept i) (dispatch_penalty_mono _ _ (dispatch_revenue_holds i))

  -- ---- fuel: E and T are those of the case before

  part_same : (part : ℕ → ℕ) (i : ℕ) → e.kind i ≡ 3
      → sum_together c i (energy_part part c i) ≡ sum_together c' i (energy_part part c' i)
  unfolding sum_together energy_part fuel_flag together group_of unit_of
  part_same part i k =
      sum_same e.count _ _
      λ j _. cond_same (together c i j)
      (λ t. ap (λ (x : ℕ). 10 * part (e.Q j) + x)
      (sum_same (e.hours j) _ _
      (λ h _. ap (λ (x : ℕ). cond (fuel_flag c i h) (x * part (e.b j h)) 0) (w.fuel j h (same_kind c i j t ∙ k)))))
      (λ _. refl)

  gain_same : (i : ℕ) → e.kind i ≡ 3 → gain c i ≡ gain c' i
  unfolding gain
  gain_same i k = part_same (positive_part 32) i k

  loss_same : (i : ℕ) → e.kind i ≡ 3 → loss c i ≡ loss c' i
  unfolding loss
  loss_same i k = part_same (negative_part 32) i k

  past_kept : (d g : ℕ) → past_fuel c d g ⇒ past_fuel c' d g
  unfolding past_fuel
  past_kept d g =
      rw (any_count p.count (λ j. counts_fuel d g (p.entry j)), any_count p'.count (λ j. counts_fuel d g (p'.entry j)))
      (ltb_mono 0 (v.more (counts_fuel d g)))

  module _ (energy : EnergyNotNegative c) where
    under_mono : (i M M' : ℕ) → i < e.count → e.kind i ≡ 3 → M ≤ M' → fuel_penalty_under c i M ≤ fuel_penalty_under c' i M'
    unfolding fuel_penalty_under tcc_change sum_together together group_of unit_of
    under_mono i M M' li k f =
        rw (← gain_same i k, ← loss_same i k) (fuel_penalty_mono M M' (gain c i) (loss c i) (tcc_change c i) f (loss_at_most c i (energy i li k)))

    prior_kept : (n d g : ℕ) → n ≤ e.count → prior_fuel c n d g ⇒ prior_fuel c' n d g
    unfolding prior_fuel fuel_stands lowest_unit together group_of unit_of
    prior_kept zero d g l = keep false
    prior_kept (suc n) d g l =
        or_mono (prior_kept n d g (omega arith))
        (and_given (fuel_stands c n d g)
        (λ t. ltb_mono 0
        (under_mono n _ _ l (eqb→eq (e.kind n) 3 (search and_left))
        (after_mono (or_mono (prior_kept n (e.day n) (group_of c n) (omega arith)) (past_kept (e.day n) (group_of c n)))))))

    fuel_multiplier_holds : (i : ℕ) → i < e.count → fuel_multiplier c i ≤ fuel_multiplier c' i
    unfolding fuel_multiplier group_of unit_of
    fuel_multiplier_holds i li =
        after_mono (or_mono (prior_kept i (e.day i) (group_of c i) (omega arith)) (past_kept (e.day i) (group_of c i)))

    fuel_penalty_holds : (i : ℕ) → i < e.count → e.kind i ≡ 3 → fuel_penalty_of c i ≤ fuel_penalty_of c' i
    unfolding fuel_penalty_of
    fuel_penalty_holds i li k = under_mono i _ _ li k (fuel_multiplier_holds i li)

    -- ---- the rows

    multiplier_worse : (i : ℕ) → i < e.count → multiplier c i ≤ multiplier c' i
    unfolding multiplier lowest_unit together group_of unit_of
    multiplier_worse i li =
        cond_le (eqb (e.kind i) 1) (λ _. withheld_multiplier_holds i)
        (λ _. cond_le (eqb (e.kind i) 2) (λ _. dispatch_multiplier_holds i)
        (λ _. cond_le (eqb (e.kind i) 3 && lowest_unit c i) (λ _. fuel_multiplier_holds i li) (λ _. le_refl 0)))

    penalty_worse : (i : ℕ) → i < e.count → penalty c i ≤ penalty c' i
    unfolding penalty lowest_unit together group_of unit_of
    penalty_worse i li =
        cond_le (eqb (e.kind i) 1) (λ t. withheld_penalty_holds i (omega (arith, eqb→eq)) (omega (arith, eqb→eq)))
        (λ _. cond_le (eqb (e.kind i) 2) (λ _. dispatch_penalty_holds i)
        (λ _. cond_le (eqb (e.kind i) 3 && lowest_unit c i)
        (λ t. fuel_penalty_holds i li (eqb→eq (e.kind i) 3 (search and_left))) (λ _. le_refl 0)))

    total_worse : total_penalty c ≤ total_penalty c'
    unfolding total_penalty
    total_worse = sum_mono e.count (penalty c) (penalty c') penalty_worse

-- ---- the relation, and the theorem on cases

pub record Worse (c c' : Case) : Type 0 where
  pub units : c.units ≡ c'.units
  pub references : c.references ≡ c'.references
  pub events : c.events ≡ c'.events
  pub past : MoreEntries c.past c'.past
  pub amounts : WorseAmounts c.events c.a c'.a

pub amounts_refl : (e : Events) (a : ℕ → ℕ → ℕ) → WorseAmounts e a a
amounts_refl e a =
    record {
      withheld = λ i h f g. le_refl _;
      fuel = λ i h k. refl;
      higher = λ i h k n. le_refl _;
      lower = λ i h k n. le_refl _;
    }

pub entries_refl : (p : Past) → MoreEntries p p
entries_refl p = record { more = λ t. le_refl _ }

pub worse_refl : (c : Case) → Worse c c
worse_refl c =
    record {
      units = refl;
      references = refl;
      events = refl;
      past = entries_refl c.past;
      amounts = amounts_refl c.events c.a;
    }

amounts_trans : (e : Events) (a a' a'' : ℕ → ℕ → ℕ) → WorseAmounts e a a' → WorseAmounts e a' a'' → WorseAmounts e a a''
amounts_trans e a a' a'' s t =
    record {
      withheld = λ i h f g. le_trans (s.withheld i h f g) (t.withheld i h f g);
      fuel = λ i h k. s.fuel i h k ∙ t.fuel i h k;
      higher = λ i h k n. le_trans (s.higher i h k n) (t.higher i h k n);
      lower = λ i h k n. le_trans (t.lower i h k n) (s.lower i h k n);
    }

pub worse_trans : {c c' c'' : Case} → Worse c c' → Worse c' c'' → Worse c c''
worse_trans {c} {c'} {c''} s t =
    record {
      units = s.units ∙ t.units;
      references = s.references ∙ t.references;
      events = s.events ∙ t.events;
      past = record { more = λ q. le_trans (s.past.more q) (t.past.more q) };
      amounts = amounts_trans c.events c.a c'.a c''.a s.amounts
          (subst (λ (e : Events). WorseAmounts e c'.a c''.a) (sym s.events) t.amounts);
    }

-- no figure of the second case is smaller
pub record Figures (c c' : Case) : Type 0 where
  pub count : c.events.count ≡ c'.events.count
  pub flags : (i h : ℕ) → bit_of (flag_mask c i) h ≡ true → bit_of (flag_mask c' i) h ≡ true
  pub multipliers : (i : ℕ) → i < c.events.count → multiplier c i ≤ multiplier c' i
  pub penalties : (i : ℕ) → i < c.events.count → penalty c i ≤ penalty c' i
  pub total : total_penalty c ≤ total_penalty c'

pub worse_figures : (c c' : Case) → Worse c c' → EnergyNotNegative c → Figures c c'
worse_figures c₁ c₂ w s =
    subst₃
    (λ (u : Units) (r : References) (e : Events).
    Figures c₁ (record { units = u; references = r; past = c₂.past; events = e; a = c₂.a }))
    w.units w.references w.events
    (record {
      count = refl;
      flags = mask_kept u r p p' e a a' x v;
      multipliers = multiplier_worse u r p p' e a a' x v s;
      penalties = penalty_worse u r p p' e a a' x v s;
      total = total_worse u r p p' e a a' x v s;
    })
  where
    u : Units
    u = c₁.units

    r : References
    r = c₁.references

    p : Past
    p = c₁.past

    p' : Past
    p' = c₂.past

    e : Events
    e = c₁.events

    a : ℕ → ℕ → ℕ
    a = c₁.a

    a' : ℕ → ℕ → ℕ
    a' = c₂.a

    x : WorseAmounts c₁.events c₁.a c₂.a
    x = w.amounts

    v : MoreEntries c₁.past c₂.past
    v = w.past
