-- A party-day has at most one event of each unit, so that its sums are at most those of 64 events.
use Prim.Native.Nat.{ℕ, zero, suc, ◌+◌, ◌*◌, ◌≤◌, ◌<◌, zero-le}
use mathlib.Core.Bool.{Bool, true, false, cond}
use mathlib.Core.List.{List}
use mathlib.Core.Logic.{⊎_elim}
use mathlib.Core.Path.{◌≡◌, refl, sym, ap, ◌∙◌}
use native.Mathlib.Nat.{mul-le-mul_right, suc-mul, eq-or-lt_of_le, mul-le-mul}
use native.Mathlib.Omega.{arith}
use lib.Dec.{ltb}
use borrow.Author.Tests.{ltb-true, ltb-false}
use Rattle.binary.specs.Bounded.{sum_to}
use Rattle.binary.specs.Word.{positive_part, negative_part, within}
use Rattle.binary.proofs.Implies.{cond_bound}
use Rattle.binary.proofs.BoundedLaws.{all_at, sum_bound}
use Rattle.binary.proofs.WordLaws.{within_positive, within_negative}
use Rattle.tariff.specs.Ranges.{highest_fuel_money, highest_energy, highest_price_change}
use Rattle.casefile.specs.Layout.{most_hours, most_units}
use Rattle.casefile.specs.Case.{Case}
use Rattle.casefile.specs.Decode.{format_in, section_of, events_in, case_in, decode}
use Rattle.casefile.specs.Lookup.{is_listed, unit_of, together}
use Rattle.limits.specs.Refusal.{event_listed, events_listed, order_fine, refusal}
use Rattle.limits.proofs.AcceptedLaws as case
use Rattle.limits.proofs.LookupLaws.{listed_place, listed_number}
use Rattle.limits.proofs.RangeLaws.{numbers_in_order}
use Rattle.limits.proofs.SectionLaws.{units_in_order, cell_ranges}
use Rattle.party_runs.proofs.PartyLaws.{together_fields}
use Rattle.conduct.specs.Flags.{sum_together, fuel_flag}
use Rattle.sanctions.specs.Penalties.{energy_part, gain, loss, tcc_change}

-- ---- figures of events whose places rise

module _ (c : Case) (i : ℕ)
    (rise : (j m : ℕ) → j < m → m < c.events.count → together c i j ≡ true → together c i m ≡ true → unit_of c j < unit_of c m)
    (B : ℕ) (f : ℕ → ℕ) (small : (j : ℕ) → j < c.events.count → together c i j ≡ true → f j ≤ B) where
  up_to_place : (n k : ℕ) → n ≤ c.events.count → ((j : ℕ) → j < n → together c i j ≡ true → unit_of c j < k)
      → sum_to n (λ j. cond (together c i j) (f j) 0) ≤ k * B
  unfolding sum_to
  up_to_place zero k l low = zero-le
  up_to_place (suc n) k l low = go (together c i n) refl (λ u v. up_to_place n u (omega arith) v)
    where
      go : (t : Bool) → together c i n ≡ t
          → ((u : ℕ) → ((j : ℕ) → j < n → together c i j ≡ true → unit_of c j < u) → sum_to n (λ j. cond (together c i j) (f j) 0) ≤ u * B)
          → sum_to n (λ j. cond (together c i j) (f j) 0) + cond t (f n) 0 ≤ k * B
      go true t before =
          let s = before (unit_of c n) (λ j m q. rise j n m (omega arith) q t) in
          let x = small n (omega arith) t in
          let y : suc (unit_of c n) ≤ k = low n (omega arith) t in
          let z : suc (unit_of c n) * B ≤ k * B = mul-le-mul_right B y in
          let e = suc-mul (unit_of c n) B in
          omega arith
      go false t before = let s = before k (λ j m q. low j (omega arith) q) in omega arith

  pub party_le : (k : ℕ) → ((j : ℕ) → j < c.events.count → together c i j ≡ true → unit_of c j < k) → sum_together c i f ≤ k * B
  unfolding sum_together
  party_le k low = up_to_place c.events.count k (omega arith) low

-- ---- an accepted case

-- what an event of kind 3 adds to E at most
abbrev pub event_most : ℕ
event_most = 10 * highest_fuel_money + most_hours * (highest_energy * highest_price_change)

module _ (f k : List ℕ) (n : ℕ) (h : refusal f k n ≡ 0) where
  abbrev c : Case
  c = decode f

  listed : (j : ℕ) → j < c.events.count → is_listed c.units (c.events.unit j) ≡ true
  unfolding decode case_in events_listed event_listed
  listed j l = all_at c.events.count j (event_listed c.units c.events) l (case.found f k n h).events_listed_holds

  pub place_low : (j : ℕ) → j < c.events.count → unit_of c j < most_units
  unfolding unit_of
  place_low j l = omega (arith, listed_place c.units (c.events.unit j) (listed j l), case.units_count f k n h)

  -- a lower unit number stands at a lower place
  lower_place : (j m : ℕ) → j < c.events.count → m < c.events.count → c.events.unit j < c.events.unit m → unit_of c j < unit_of c m
  unfolding unit_of decode case_in
  lower_place j m lj lm q = go (ltb (unit_of c j) (unit_of c m)) refl
    where
      nj : c.units.number (unit_of c j) ≡ c.events.unit j
      nj = listed_number c.units (c.events.unit j) (listed j lj)

      nm : c.units.number (unit_of c m) ≡ c.events.unit m
      nm = listed_number c.units (c.events.unit m) (listed m lm)

      go : (b : Bool) → ltb (unit_of c j) (unit_of c m) ≡ b → unit_of c j < unit_of c m
      go true b = ltb-true _ _ b
      go false b =
          absurd
          (⊎_elim
          (λ (e : unit_of c m ≡ unit_of c j). let z = ap c.units.number e in omega (arith, nj, nm))
          (λ (lt : unit_of c m < unit_of c j).
          let r = numbers_in_order (format_in f) (section_of f 0) (case.records f k n h).units_fine_holds (unit_of c m) (unit_of c j) lt (listed_place c.units (c.events.unit j) (listed j lj)) in
          omega (arith, nj, nm))
          (eq-or-lt_of_le (ltb-false _ _ b)))

  ordered : order_fine c.events ≡ true
  unfolding decode case_in
  ordered = (case.fields f k n h).order_fine_holds

  -- the cells of an event of kind 3
  cell : (j : ℕ) → j < c.events.count → c.events.kind j ≡ 3 → (x : ℕ) → x < most_hours
      → (c.a j x ≤ highest_energy) × (within 32 highest_price_change (c.events.b j x) ≡ true)
  unfolding decode case_in events_in
  cell j l kj x m = (cell_ranges (format_in f) (section_of f 3) (case.fields f k n h).events_fine_holds j x l m).fuel kj

  module _ (i : ℕ) (kind : c.events.kind i ≡ 3) where
    bare : (j : ℕ) → j < c.events.count → together c i j ≡ true → c.events.component j ≡ 0
    bare j l t = (case.event_ranges f k n h j l).plain (omega (arith, (together_fields c i j t).kind))

    rise : (j m : ℕ) → j < m → m < c.events.count → together c i j ≡ true → together c i m ≡ true → unit_of c j < unit_of c m
    rise j m l lm tj tm =
        let a = together_fields c i j tj in
        let b = together_fields c i m tm in
        let u = units_in_order c.events ordered j m l lm (a.day ∙ sym b.day) (a.kind ∙ sym b.kind) (a.market ∙ sym b.market) in
        lower_place j m (omega arith) lm (omega (arith, bare j (omega arith) tj, bare m lm tm))

    -- ---- its sums

    -- a part of a word that is within a bound
    abbrev pub Part : (part : ℕ → ℕ) → Type 0
    Part part = (b w : ℕ) → within 32 b w ≡ true → part w ≤ b

    pub energy_most : (part : ℕ → ℕ) → Part part → (j : ℕ) → j < c.events.count → together c i j ≡ true → energy_part part c i j ≤ event_most
    unfolding energy_part decode case_in events_in
    energy_most part q j l t =
        let kj : c.events.kind j ≡ 3 = (together_fields c i j t).kind ∙ kind in
        let a = q highest_fuel_money (c.events.Q j) ((case.event_ranges f k n h j l).guarantee kj) in
        let s =
        sum_bound most_hours (λ x. cond (fuel_flag c i x) (c.a j x * part (c.events.b j x)) 0) (highest_energy * highest_price_change)
        (λ x m. cond_bound (fuel_flag c i x)
        (λ _. mul-le-mul (cell j l kj x m).0 (q highest_price_change (c.events.b j x) (cell j l kj x m).1))
        (λ _. zero-le)) in
        omega arith

    pub gain_most : gain c i ≤ most_units * event_most
    unfolding gain
    gain_most = party_le c i rise event_most (energy_part (positive_part 32) c i) (energy_most (positive_part 32) (within_positive 32)) most_units (λ j l t. place_low j l)

    pub loss_most : loss c i ≤ most_units * event_most
    unfolding loss
    loss_most = party_le c i rise event_most (energy_part (negative_part 32) c i) (energy_most (negative_part 32) (within_negative 32)) most_units (λ j l t. place_low j l)

    pub tcc_most : tcc_change c i ≤ most_units * highest_fuel_money
    unfolding tcc_change
    tcc_most =
        let s =
        party_le c i rise highest_fuel_money (λ j. positive_part 32 (c.events.R j))
        (λ j l t. within_positive 32 highest_fuel_money (c.events.R j) ((case.event_ranges f k n h j l).congestion ((together_fields c i j t).kind ∙ kind)))
        most_units (λ j l t. place_low j l) in
        omega arith
