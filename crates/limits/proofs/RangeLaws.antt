-- What the tests of records and cells say: the ranges of fields, and the strict orders.
use Prim.Native.Nat.{ℕ, zero, suc, ◌-◌, ◌≤◌, ◌<◌}
use mathlib.Core.Bool.{Bool, true, false, cond, not, ◌&&◌, ◌||◌}
use mathlib.Core.List.{List}
use mathlib.Core.Logic.{⊎_elim}
use mathlib.Core.Path.{◌≡◌, refl, sym, ap, subst}
use native.Mathlib.Nat.{eq-or-lt_of_le, le_of_suc-le-suc, not-suc-le-zero, zero-mod, zero-div}
use native.Mathlib.Omega.{arith}
use lib.Dec.{ltb, leb, eqb}
use lib.ListN.{length}
use borrow.Author.Tests.{ltb-true, leb-true, eqb-true, eq-eqb, ne_eqb}
use Rattle.binary.specs.Bounded.{all_to}
use Rattle.binary.specs.Lists.{Bytes}
use Rattle.binary.specs.Word.{within}
use Rattle.binary.proofs.Implies.{and_l, and_r}
use Rattle.binary.proofs.BoundedLaws.{all_at}
use Rattle.calendar.specs.Months.{calendar_days}
use Rattle.calendar.specs.Periods.{in_calendar}
use Rattle.tariff.specs.Ranges.{highest_capability, highest_component, highest_market, highest_day, highest_kind, highest_price, highest_revenue, highest_fuel_money, highest_energy, highest_price_change, highest_megawatts, bid_in_range}
use Rattle.casefile.specs.declared.layout.Format.{Format}
use Rattle.casefile.specs.Case.{Units, Past, Events}
use Rattle.casefile.specs.Layout.{reference_width, event_width, number_width, first_widths, old_numbers, highest_number, number_limit}
use Rattle.casefile.specs.Decode.{units_in, references_in, events_in, old_number}
use Rattle.casefile.specs.Lookup.{reference_key, correct_references}
use Rattle.casefile.proofs.RecordLaws.{event_unit_lt}
use Rattle.limits.specs.StageLookup.{Rising, UnitsInOrder, InOrder}
use Rattle.limits.specs.Refusal.{size_fine, number_fine, record_numbers_fine, reference_numbers_fine, event_numbers_fine, numbers_fine, units_fine, references_fine, correction_fine, rises, unit_fields_fine, unit_fine, reference_fine, quantities_fine, fields_fine, cell_fine, event_fine, days_fine}

-- ---- tests

pub or_right : (x y : Bool) → (x || y) ≡ true → x ≡ false → y ≡ true
or_right true y h e = let z : true ≡ false = e in cc
or_right false y h e = h

pub of_kind_holds : (k kind : ℕ) (t : Bool) → (not (eqb kind k) || t) ≡ true → kind ≡ k → t ≡ true
of_kind_holds k kind t h e = or_right (not (eqb kind k)) t h (ap not (eq-eqb kind k e))

-- ---- the ranges that settling a case goes by

pub capability_range : (format : Format) (s : List ℕ) (i : ℕ) → unit_fine format s i ≡ true → (units_in format s).capability i ≤ highest_capability
unfolding unit_fine unit_fields_fine
capability_range format s i h = leb-true ((units_in format s).capability i) highest_capability (search (and_l, and_r) depth 10)

pub record EventRange (e : Events) (i : ℕ) : Type 0 where
  pub kind : e.kind i ≤ highest_kind
  pub market : e.market i ≤ highest_market
  pub component : e.component i ≤ highest_component
  pub plain : e.kind i < 4 → e.component i ≡ 0
  pub day : e.day i ≤ highest_day
  pub guarantee : e.kind i ≡ 3 → within 32 highest_fuel_money (e.Q i) ≡ true
  pub congestion : e.kind i ≡ 3 → within 32 highest_fuel_money (e.R i) ≡ true

-- every event's day is in the calendar
pub event_day : (p : Past) (e : Events) → days_fine p e ≡ true → (i : ℕ) → i < e.count → e.day i < calendar_days
unfolding days_fine
event_day p e h i l =
    ltb-true (e.day i) calendar_days
    (all_at e.count i (λ j. in_calendar (e.day j)) l (and_r (all_to p.count (λ j. in_calendar (p.entry j).day)) (all_to e.count (λ j. in_calendar (e.day j))) h))

-- the cell of an hour, by kind
pub record CellRange (kind a b m : ℕ) : Type 0 where
  pub withheld : kind ≡ 1 → within 32 highest_price b ≡ true
  pub dispatch : kind ≡ 2 → b ≤ highest_revenue
  pub fuel : kind ≡ 3 → (a ≤ highest_energy) × (within 32 highest_price_change b ≡ true)
  pub bid : kind ≡ 4 → m ≤ highest_megawatts

pub event_range : (e : Events) (a : ℕ → ℕ → ℕ) (i : ℕ) → event_fine e a i ≡ true → EventRange e i
unfolding event_fine fields_fine quantities_fine
event_range e a i h =
    record {
      kind = leb-true (e.kind i) highest_kind (search (and_l, and_r) depth 20);
      market = leb-true (e.market i) highest_market (search (and_l, and_r) depth 20);
      component = leb-true (e.component i) highest_component (search (and_l, and_r) depth 20);
      plain = λ k. eqb-true (e.component i) 0
          (or_right (eqb (e.kind i) 4) (eqb (e.component i) 0) (search (and_l, and_r) depth 20) (ne_eqb (e.kind i) 4 (λ q. omega arith)));
      day = leb-true (e.day i) highest_day (search (and_l, and_r) depth 20);
      guarantee = λ k. let t = fuel k in search (and_l, and_r);
      congestion = λ k. let t = fuel k in search (and_l, and_r);
    }
  where
    fuel : e.kind i ≡ 3
        → (within 32 highest_fuel_money (e.Q i) && within 32 highest_fuel_money (e.R i) && (eqb (e.market i) 0 || eqb (e.R i) 0)) ≡ true
    fuel k = of_kind_holds 3 (e.kind i) _ (search (and_l, and_r) depth 20) k

pub cell_range : (kind component a b m : ℕ) → cell_fine kind component a b m ≡ true → CellRange kind a b m
unfolding cell_fine
cell_range kind component a b m h =
    record {
      withheld = λ k.
          let t : (within 32 highest_price b && eqb m 0) ≡ true = of_kind_holds 1 kind _ (search (and_l, and_r)) k in
          search (and_l, and_r);
      dispatch = λ k.
          let t : (leb b highest_revenue && eqb m 0) ≡ true = of_kind_holds 2 kind _ (search (and_l, and_r)) k in
          leb-true b highest_revenue (search (and_l, and_r));
      fuel = λ k.
          let t : (leb a highest_energy && within 32 highest_price_change b && eqb m 0) ≡ true = of_kind_holds 3 kind _ (search (and_l, and_r)) k in
          (leb-true a highest_energy (search (and_l, and_r)), search (and_l, and_r));
      bid = λ k.
          let t : (bid_in_range component a && within 32 highest_price b && leb m highest_megawatts) ≡ true = of_kind_holds 4 kind _ (search (and_l, and_r)) k in
          leb-true m highest_megawatts (search (and_l, and_r));
    }

-- ---- unit numbers

-- the events' part of 17
pub event_numbers : (format : Format) (u r e : List ℕ) → numbers_fine format u r e ≡ true → event_numbers_fine format e ≡ true
unfolding numbers_fine
event_numbers format u r e h = search (and_l, and_r)

-- a number leaves room in a key: in two bytes it is below 65,536, and of four bytes 17 asks that it is at most 999,999
pub number_lt : (format : Format) (s : List ℕ) → Bytes s → event_numbers_fine format s ≡ true → (i : ℕ) → i < (events_in format s).count
    → (events_in format s).unit i < number_limit
unfolding event_numbers_fine record_numbers_fine number_fine
number_lt format s b h i l = go (old_numbers format) refl h
  where
    old : ℕ → ℕ
    old = old_number (event_width format) first_widths.event_unit s

    go : (t : Bool) → old_numbers format ≡ t → (t || all_to (events_in format s).count (number_fine old (events_in format s).unit)) ≡ true
        → (events_in format s).unit i < number_limit
    go true e f = event_unit_lt format s i b (eqb-true (number_width format) 2 e)
    go false e f =
        let t = all_at (events_in format s).count i (number_fine old (events_in format s).unit) l f in
        let m = leb-true ((events_in format s).unit i) highest_number (and_r (eqb (old i) 0) (leb ((events_in format s).unit i) highest_number) t) in
        omega arith

-- ---- strict orders

-- a key that rises at each place below n rises from any place to any later one
pub rising : (key : ℕ → ℕ) (n : ℕ) → ((j : ℕ) → j < n → rises key j ≡ true) → Rising key n
unfolding rises
rising key n h i zero l m = absurd (not-suc-le-zero l)
rising key n h i (suc j) l m =
    ⊎_elim
    (λ q. subst (λ (x : ℕ). key x < key (suc j)) (sym q) next)
    (λ k. let r = rising key n h i j k (omega arith) in omega (arith, next))
    (eq-or-lt_of_le (le_of_suc-le-suc l))
  where
    next : key j < key (suc j)
    next =
        let e : suc j - 1 ≡ j = omega arith in
        ltb-true (key j) (key (suc j))
        (rw e at (or_right (eqb (suc j) 0) (ltb (key (suc j - 1)) (key (suc j))) (h (suc j) m) (ne_eqb (suc j) 0 (λ q. omega arith))))

pub numbers_in_order : (format : Format) (s : List ℕ) → units_fine format s ≡ true → UnitsInOrder format s
unfolding units_fine unit_fine
numbers_in_order format s h =
    rising (units_in format s).number (units_in format s).count
    (λ j l. let t = all_at (units_in format s).count j (unit_fine format s) l h in search (and_l, and_r))

pub references_in_order : (format : Format) (u : Units) (s : List ℕ) → references_fine format u s ≡ true → InOrder format s
unfolding references_fine reference_fine
references_in_order format u s h =
    rising (reference_key (references_in format s)) (references_in format s).count
    (λ j l. let t = all_at (references_in format s).count j (reference_fine format u s) l h in search (and_l, and_r))

pub correct_in_order : (format : Format) (u : Units) (correction own : List ℕ) → references_fine format u own ≡ true
    → correction_fine format u correction ≡ true → InOrder format (correct_references correction own)
unfolding correct_references correction_fine
correct_in_order format u correction own h k = go (eqb (length correction) 0)
  where
    go : (b : Bool) → InOrder format (cond b own correction)
    go true = references_in_order format u own h
    go false = references_in_order format u correction (search (and_l, and_r))

-- no correction breaks nothing
pub none_fine : (format : Format) (u : Units) (s : List ℕ) → length s ≡ 0 → true ≡ correction_fine format u s
unfolding correction_fine size_fine record_numbers_fine reference_numbers_fine references_fine references_in all_to
none_fine format u s e = rw (e, zero-mod (reference_width format), zero-div (reference_width format)) (go (old_numbers format))
  where
    go : (b : Bool) → true ≡ ((b || true) && true)
    go true = refl
    go false = refl
