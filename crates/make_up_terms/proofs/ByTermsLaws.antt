-- The make-up follows from its terms.
use Prim.Native.Nat.{ℕ, ◌<◌}
use mathlib.Core.Bool.{Bool, true, false, cond, not}
use mathlib.Core.List.{List}
use mathlib.Core.Path.{◌≡◌, refl, sym, ◌∙◌}
use native.Mathlib.Omega.{arith}
use lib.Dec.{ltb, eqb}
use lib.ListN.{get_or}
use borrow.Author.Tests.{eqb-false}
use Rattle.binary.specs.Bounded.{sum_to, mask_to, bit_of}
use Rattle.binary.specs.Lists.{list_to}
use Rattle.binary.proofs.Implies.{and_l, and_r}
use Rattle.binary.proofs.BoundedLaws.{sum_same, sum_bound}
use Rattle.binary.proofs.MaskLaws.{bit_mask}
use Rattle.binary.proofs.ListLaws.{list_at}
use Rattle.tariff.specs.ConductTests.{bid_test}
use Rattle.tariff.specs.SanctionRules.{cents}
use Rattle.tariff.specs.DefaultBidRules.{restores, corrected_bid, corrected_in_force, make_up}
use Rattle.casefile.specs.Layout.{most_hours}
use Rattle.casefile.specs.Case.{References, Case}
use Rattle.casefile.specs.Decode.{events_in, case_in, decode}
use Rattle.casefile.specs.Lookup.{unit_of, reference_of, bid_level, correct_in}
use Rattle.limits.specs.Refusal.{refusal, most_rows}
use Rattle.limits.specs.StageLookup.{reads_level, correct_level}
use Rattle.conduct.specs.Flags.{tight}
use Rattle.default_bids.specs.Mitigation.{mitigated, correct_of, bid_in_force, make_up_tenths, make_up_of}
use Rattle.make_up_terms.specs.declared.make_up_working.MakeUpWorking.{MakeUpWorking}
use Rattle.make_up_terms.specs.MakeUpWorking.{correct_read, restored, energy_bid, hour_make_up_tenths, make_up_working_at, refused_make_up, make_up_working_of}
use Rattle.make_up_terms.specs.ByTerms.{MakeUpByTerms, ByTerms}
use Rattle.make_up_terms.proofs.MakeUpLaws.{energy_reads, correct_read_is}

sum_zero : (n : ℕ) (p : ℕ → ℕ) → ((j : ℕ) → j < n → p j ≡ 0) → sum_to n p ≡ 0
sum_zero n p e = let b = sum_bound n p 0 (λ j l. let q = e j l in omega arith) in omega arith

no_make_up : (r c : ℕ) → make_up r c 0 ≡ 0
unfolding make_up cents
no_make_up r c = go (eqb c r)
  where
    go : (b : Bool) → ◌≡◌ {A = ℕ} (cond b 0 0) 0
    go true = refl
    go false = refl

-- the hours of a bid on energy add to its make-up in tenths; others have none
tenths_added : (f : List ℕ) (correct : References) (i : ℕ)
    → sum_to most_hours (hour_make_up_tenths (decode f) correct i) ≡ cond (energy_bid (decode f) i) (make_up_tenths (decode f) correct i) 0
unfolding hour_make_up_tenths make_up_tenths decode case_in events_in
tenths_added f correct i = go (energy_bid (decode f) i) _
  where
    go : (b : Bool) (p : ℕ → ℕ) → sum_to most_hours (λ h. cond b (p h) 0) ≡ cond b (sum_to most_hours p) 0
    go true p = refl
    go false p = sum_zero most_hours _ (λ j l. refl)

-- ---- a bid

module _ (c : Case) (i : ℕ) where
  -- r of a bid
  level_is : eqb (c.events.kind i) 4 ≡ true → bid_level c.references c.events i ≡ reference_of c i
  unfolding bid_level reference_of
  level_is t = rw t

  mitigated_bid : (h : ℕ) → mitigated c i h ≡ true → eqb (c.events.kind i) 4 ≡ true
  unfolding mitigated
  mitigated_bid h t = and_l (eqb (c.events.kind i) 4) _ t

  module _ (correct : References) where
    level_read : reads_level c.events i ≡ true → correct_level correct c.events i ≡ correct_of c correct i
    unfolding correct_level correct_of
    level_read q = rw q

    due_is : energy_bid c i ≡ true → make_up_of c correct i ≡ make_up (bid_level c.references c.events i) (correct_read c correct i) (make_up_tenths c correct i)
    unfolding make_up_of energy_bid
    due_is t =
        rw (
          t,
          level_is (and_l (eqb (c.events.kind i) 4) (eqb (c.events.component i) 0) t),
          correct_read_is c correct i,
          level_read (energy_reads c i t),
        )

    -- others have none
    due_none : energy_bid c i ≡ false → make_up_of c correct i ≡ 0
    unfolding make_up_of energy_bid
    due_none t = rw t

    due_all : make_up_of c correct i ≡ make_up (bid_level c.references c.events i) (correct_read c correct i) (cond (energy_bid c i) (make_up_tenths c correct i) 0)
    due_all = go (energy_bid c i) refl
      where
        go : (b : Bool) → energy_bid c i ≡ b
            → make_up_of c correct i ≡ make_up (bid_level c.references c.events i) (correct_read c correct i) (cond b (make_up_tenths c correct i) 0)
        go true t = due_is t
        go false t = due_none t ∙ sym (no_make_up (bid_level c.references c.events i) (correct_read c correct i))

    -- a restored hour
    in_force_is : (h : ℕ) → restored c correct i h ≡ true → bid_in_force c correct i h ≡ c.a i h
    unfolding restored bid_in_force corrected_in_force corrected_bid
    in_force_is h t =
        let m : mitigated c i h ≡ true = and_l (mitigated c i h) _ t in
        let kind = mitigated_bid h m in
        let both = and_r (mitigated c i h) _ t in
        let x : restores (c.events.component i) (bid_level c.references c.events i) (correct_of c correct i) ≡ true =
        and_l (restores (c.events.component i) (bid_level c.references c.events i) (correct_of c correct i)) _ both in
        let y : restores (c.events.component i) (reference_of c i) (correct_of c correct i) ≡ true = rw (level_is kind) at x in
        let z : bid_test (c.events.component i) (correct_of c correct i) (c.a i h) (c.events.market i) (tight c i h) (c.units.average_price (unit_of c i)) (c.units.constrained_hours (unit_of c i)) 0 ≡ false =
        passes _ (and_r (restores (c.events.component i) (bid_level c.references c.events i) (correct_of c correct i)) _ both) in
        rw (kind, m, y, z)
      where
        passes : (b : Bool) → not b ≡ true → b ≡ false
        passes true q = sym q
        passes false q = refl

-- ---- of every working that is given

module _ (f : List ℕ) (correct : References) (i : ℕ) where
  summed_is : sum_to most_hours (λ h. get_or (list_to most_hours (hour_make_up_tenths (decode f) correct i)) h 0) ≡ cond (energy_bid (decode f) i) (make_up_tenths (decode f) correct i) 0
  summed_is = sum_same most_hours _ _ (λ h m. list_at (hour_make_up_tenths (decode f) correct i) most_hours h 0 m) ∙ hours_is
    where
      hours_is : sum_to most_hours (hour_make_up_tenths (decode f) correct i) ≡ cond (energy_bid (decode f) i) (make_up_tenths (decode f) correct i) 0
      hours_is = tenths_added f correct i

  restored_bit : (h : ℕ) → h < most_hours → bit_of (mask_to ((decode f).events.hours i) (restored (decode f) correct i)) h ≡ restored (decode f) correct i h
  unfolding decode case_in events_in
  restored_bit h m = bit_mask most_hours h (restored (decode f) correct i) m

  by_terms_at : MakeUpByTerms (decode f) correct i (make_up_working_at (decode f) correct i)
  unfolding make_up_working_at
  by_terms_at =
      record {
        of_the_row = (refl, refl);
        summed = summed_is;
        due = due_all (decode f) i correct;
        in_force_holds = λ h m t. in_force_is (decode f) i correct h (sym (restored_bit h m) ∙ t);
      }

refused_number : (n : ℕ) → (refused_make_up n).number ≡ n
unfolding refused_make_up
refused_number n = refl

pub by_terms : ByTerms
unfolding make_up_working_of
by_terms f k i e = go (eqb (refusal f k (most_rows f)) 0) refl (ltb i (decode f).events.count) e
  where
    given_by : (a b : Bool) → MakeUpWorking
    given_by a b = cond a (cond b (make_up_working_at (decode f) (correct_in f k) i) (refused_make_up 10)) (refused_make_up (refusal f k (most_rows f)))

    go : (a : Bool) → eqb (refusal f k (most_rows f)) 0 ≡ a → (b : Bool) → (given_by a b).number ≡ 0 → MakeUpByTerms (decode f) (correct_in f k) i (given_by a b)
    go true q true z = by_terms_at f (correct_in f k) i
    go true q false z = absurd (omega (arith, refused_number 10))
    go false q b z = absurd (eqb-false (refusal f k (most_rows f)) 0 q (sym (refused_number _) ∙ z))
