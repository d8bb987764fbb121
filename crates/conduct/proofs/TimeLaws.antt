-- The time totals: bids on the time components of one unit, day and market stand next to each other, and what is added from
-- the neighbours of one of them is the total.
use Prim.Native.Nat.{ℕ, zero, suc, ◌+◌, ◌-◌, ◌≤◌, ◌<◌, zero-le}
use mathlib.Core.Bool.{Bool, true, false, cond, ◌&&◌}
use mathlib.Core.List.{List, [], ◌∷◌}
use mathlib.Core.Path.{◌≡◌, refl, sym, ap, ap₂, ◌∙◌}
use native.Mathlib.Nat.{add-zero}
use native.Mathlib.Omega.{arith}
use borrow.Author.Tests.{eqb-true, eq-eqb, ne_eqb, ltb-true, ltb-false, leb-true, leb-false, le-leb, lt-ltb}
use lib.Dec.{ltb, leb, eqb}
use lib.ListN.{get_or, replicate}
use Rattle.tariff.specs.StageSums.{highest_sum}
use Rattle.casefile.specs.declared.layout.Format.{Format}
use Rattle.binary.specs.Bounded.{sum_to}
use Rattle.binary.specs.Lists.{Holds}
use Rattle.binary.proofs.Implies.{and_l, and_r, same_test}
use Rattle.binary.proofs.BoundedLaws.{sum_none, sum_more, sum_same, sum_bound}
use Rattle.binary.proofs.WordLaws.{positive_lt}
use Rattle.tariff.specs.ConductTests.{increase}
use Rattle.casefile.specs.Layout.{most_events, most_hours}
use Rattle.casefile.specs.Case.{Events, Case}
use Rattle.casefile.specs.Decode.{format_in, section_of, events_in, amounts_in, case_in, decode, cells_from}
use Rattle.limits.specs.Refusal.{event_key, refusal}
use Rattle.limits.specs.StageLookup.{Rising}
use Rattle.casefile.specs.StageRead.{cell_of}
use Rattle.casefile.specs.declared.cells.Cell.{Cell}
use Rattle.limits.proofs.AcceptedLaws.{event_ranges, events_rise}
use Rattle.conduct.specs.Flags.{time_bid}
use Rattle.conduct.specs.StageMasks.{SmallRow}
use Rattle.conduct.specs.StageFlags.{counted, Added, HasRow, time_total_in, total_read}
use Rattle.conduct.specs.StageTime.{BidsInOrder, component_bid, counted_increase, component_increase, cell, HasIncreases, SmallTable, same_totals, total_before}
use Rattle.conduct.proofs.SumLaws.{sum_beyond, cond_le, and_both, cell_amount, added_same, uncounted, zeros_at}

-- ---- sums

sum_three : (n : ℕ) (f g h : ℕ → ℕ) → sum_to n (λ j. f j + g j + h j) ≡ sum_to n f + sum_to n g + sum_to n h
unfolding sum_to
sum_three zero f g h = refl
sum_three (suc n) f g h = let e = sum_three n f g h in omega arith

-- ---- an accepted case has its bids in order

pub bids_in_order : (f k : List ℕ) (n : ℕ) → refusal f k n ≡ 0 → BidsInOrder (events_in (format_in f) (section_of f 3))
unfolding decode case_in
bids_in_order f k n h = record { bid = λ i l p. pick i l p (ltb ((decode f).events.kind i) 4) refl; rise = events_rise f k n h }
  where
    pick : (i : ℕ) → i < (decode f).events.count → 0 < (decode f).events.component i
        → (b : Bool) → ltb ((decode f).events.kind i) 4 ≡ b → (decode f).events.kind i ≡ 4
    pick i l p true q =
        let z = (event_ranges f k n h i l).plain (ltb-true ((decode f).events.kind i) 4 q) in
        absurd (let w : ⊥ = omega arith in w)
    pick i l p false q =
        let z = (event_ranges f k n h i l).kind in
        let w = ltb-false ((decode f).events.kind i) 4 q in
        omega arith

-- ---- where the time bids stand

pub record TimeBid (e : Events) (i j : ℕ) : Type 0 where
  pub kind : e.kind j ≡ 4
  pub unit : e.unit j ≡ e.unit i
  pub day : e.day j ≡ e.day i
  pub market : e.market j ≡ e.market i
  pub least : 4 ≤ e.component j
  pub most : e.component j ≤ 6

time_fields : (c : Case) (i j : ℕ) → time_bid c i j ≡ true → TimeBid c.events i j
unfolding time_bid
time_fields c i j h =
    record {
      kind = eqb-true (c.events.kind j) 4 (search (and_l, and_r) depth 8);
      unit = eqb-true (c.events.unit j) (c.events.unit i) (search (and_l, and_r) depth 8);
      day = eqb-true (c.events.day j) (c.events.day i) (search (and_l, and_r) depth 8);
      market = eqb-true (c.events.market j) (c.events.market i) (search (and_l, and_r) depth 8);
      least = leb-true 4 (c.events.component j) (search (and_l, and_r) depth 8);
      most = leb-true (c.events.component j) 6 (search (and_l, and_r) depth 8);
    }

-- keys that rise are as far apart as their places
gap : (key : ℕ → ℕ) (n : ℕ) → Rising key n → (k i : ℕ) → i + k < n → key i + k ≤ key (i + k)
gap key n r zero i l = let e : key (i + 0) ≡ key i = ap key (add-zero i) in omega arith
gap key n r (suc k) i l =
    let a = gap key n r k i (omega arith) in
    let b = r (i + k) (i + suc k) (omega arith) l in
    omega arith

apart : (e : Events) (x y : ℕ) → Rising (event_key e) e.count → y < e.count → event_key e y ≤ event_key e x + 2 → y ≤ x + 2
apart e x y r m q = pick (leb x y) refl
  where
    pick : (b : Bool) → leb x y ≡ b → y ≤ x + 2
    pick true t =
        let l = leb-true x y t in
        let s : x + (y - x) ≡ y = omega arith in
        let g : event_key e x + (y - x) ≤ event_key e y = rw s at (gap (event_key e) e.count r (y - x) x (rw s m)) in
        omega arith
    pick false t = let l = leb-false x y t in omega arith

-- two time bids of one unit, day and market are within two places of each other
near : (e : Events) (i j : ℕ) → Rising (event_key e) e.count → i < e.count → j < e.count → TimeBid e i i → TimeBid e i j
    → (i ≤ j + 2) × (j ≤ i + 2)
unfolding event_key
near e i j r l m a b = (
  apart e j i r l (let k = a.kind in let t = a.most in let u = b.kind in let v = b.least in omega arith),
  apart e i j r m (let k = a.kind in let t = a.least in let u = b.kind in let v = b.most in omega arith),
)

module _ (format : Format) (e : List ℕ) (i component : ℕ) (o : BidsInOrder (events_in format e)) (l : i < (events_in format e).count)
    (own : time_bid (case_in format [] [] [] e) i i ≡ true) where
  -- no bid on the component is further off
  pub far : (j : ℕ) → j < (events_in format e).count → ((i ≤ j + 2) × (j ≤ i + 2) → ⊥) → component_bid (case_in format [] [] [] e) i component j ≡ false
  unfolding component_bid case_in events_in
  far j m n = pick (time_bid (case_in format [] [] [] e) i j) refl
    where
      pick : (b : Bool) → time_bid (case_in format [] [] [] e) i j ≡ b → (b && eqb ((case_in format [] [] [] e).events.component j) component) ≡ false
      pick true t =
          absurd (n (near (events_in format e) i j o.rise l m (time_fields (case_in format [] [] [] e) i i own) (time_fields (case_in format [] [] [] e) i j t)))
      pick false t = refl

-- ---- the increases of a component

increase_le : (r a : ℕ) → increase r a ≤ 4294967295
unfolding increase
increase_le r a = omega (arith, positive_lt 32 a)

counted_le : (a : ℕ → ℕ → ℕ) (level j h : ℕ) (b : Bool) → counted_increase a level j b h ≤ 4294967295
unfolding counted_increase
counted_le a level j h b = cond_le b _ _ (increase_le level (a j h))

pub counted_none : (a : ℕ → ℕ → ℕ) (level j : ℕ) (l : List ℕ) (b : Bool) → b ≡ false → Added most_hours l l (counted_increase a level j b)
unfolding counted_increase counted
counted_none a level j l b e = uncounted l (λ h. increase level (a j h)) b e

pub counted_is : (cells : List ℕ) (level j h x d : ℕ) (b : Bool) (cell : Cell) → b ≡ true → cell ≡ cell_of cells h → x ≡ increase level cell.a → d ≡ x
    → d ≡ counted_increase (λ (_ y : ℕ). (cell_of cells y).a) level j b h
unfolding counted_increase
counted_is cells level j h x d b cell t el ex ed = rw (ed, ex, el, t)

pub increases_added : (format : Format) (e : List ℕ) (level j : ℕ) (b : Bool) (old new : List ℕ)
    → Added most_hours old new (counted_increase (λ (_ y : ℕ). (cell_of (cells_from format e j) y).a) level j b)
    → Added most_hours old new (counted_increase (amounts_in format e) level j b)
unfolding counted_increase
increases_added format e level j b old new a = added_same most_hours old new _ _ (λ h. rw (cell_amount format e j h)) a

module _ (format : Format) (e levels : List ℕ) (i component : ℕ) where
  pub increases_none : (start k : ℕ) → ((j : ℕ) → j < start → component_bid (case_in format [] [] [] e) i component j ≡ false)
      → Holds most_hours (replicate k 0) (component_increase format e levels i component start)
  unfolding component_increase counted_increase
  increases_none start k f h l = zeros_at k h ∙ sum_none _ ∙ sym (sum_beyond 0 start _ zero-le (λ j a b. rw (f j b)))

  pub increases_more : (old new : List ℕ) (m : ℕ) (b : Bool) → Holds most_hours old (component_increase format e levels i component m)
      → b ≡ component_bid (case_in format [] [] [] e) i component m → Added most_hours old new (counted_increase (amounts_in format e) (get_or levels m 0) m b)
      → Holds most_hours new (component_increase format e levels i component (m + 1))
  unfolding component_increase
  increases_more old new m b s q d h l =
      (rw (lt-ltb h most_hours l, q) at (d.each h))
      ∙ ap (λ (x : ℕ). x + counted_increase (amounts_in format e) (get_or levels m 0) m (component_bid (case_in format [] [] [] e) i component m) h) (s h l)
      ∙ sym (sum_more m _)

  pub increases_all : (row : List ℕ) (m n : ℕ) → m ≤ n → ((j : ℕ) → m ≤ j → j < n → component_bid (case_in format [] [] [] e) i component j ≡ false)
      → Holds most_hours row (component_increase format e levels i component m) → Holds most_hours row (component_increase format e levels i component n)
  unfolding component_increase counted_increase
  increases_all row m n q f s h l = s h l ∙ sym (sum_beyond m n _ q (λ j a b. rw (f j a b)))

  increases_le : (m h : ℕ) → m ≤ most_events → component_increase format e levels i component m h ≤ highest_sum
  unfolding component_increase
  increases_le m h l =
      let q = sum_bound m (λ j. counted_increase (amounts_in format e) (get_or levels j 0) j (component_bid (case_in format [] [] [] e) i component j) h) 4294967295
      (λ j lj. counted_le (amounts_in format e) (get_or levels j 0) j h (component_bid (case_in format [] [] [] e) i component j)) in
      omega arith

  pub small_increases : (row : List ℕ) (m : ℕ) → m ≤ most_events → Holds most_hours row (component_increase format e levels i component m) → SmallRow row
  small_increases row m l s h q = rw (s h q) (increases_le m h l)

-- ---- the table

-- three arrays by hour are the table
pub three : (figure : ℕ → ℕ → ℕ) (x y z : List ℕ) → Holds most_hours x (figure 0) → Holds most_hours y (figure 1) → Holds most_hours z (figure 2)
    → HasIncreases figure (x ∷ y ∷ z ∷ [])
three figure x y z hx hy hz = record { each = go }
  where
    go : (k h : ℕ) → k < 3 → h < most_hours → cell (x ∷ y ∷ z ∷ []) k h ≡ figure k h
    go zero h l q = hx h q
    go (suc zero) h l q = hy h q
    go (suc (suc zero)) h l q = hz h q
    go (suc (suc (suc k))) h l q = absurd (let n : ⊥ = omega arith in n)

pub small_table : (format : Format) (e levels : List ℕ) (i n : ℕ) (t : List (List ℕ)) → n ≤ 200
    → HasIncreases (λ k. component_increase format e levels i (4 + k) n) t → SmallTable t
small_table format e levels i n t l s k lk h lh = rw (s.each k h lk lh) (increases_le format e levels i (4 + k) n h l)

-- ---- the three components added

-- a component from 4 to 6 is one of three
split_at : (m x : ℕ) → m < 3 → x ≡ cond (eqb (4 + m) 4) x 0 + cond (eqb (4 + m) 5) x 0 + cond (eqb (4 + m) 6) x 0
split_at zero x l = omega arith
split_at (suc zero) x l = omega arith
split_at (suc (suc zero)) x l = omega arith
split_at (suc (suc (suc m))) x l = absurd (let n : ⊥ = omega arith in n)

split : (b : Bool) (component x : ℕ) → (b ≡ true → (4 ≤ component) × (component ≤ 6))
    → cond (b && eqb component 4) x 0 + cond (b && eqb component 5) x 0 + cond (b && eqb component 6) x 0 ≡ cond b x 0
split true component x h =
    let r = h refl in
    let e : component ≡ 4 + (component - 4) = omega arith in
    rw e (sym (split_at (component - 4) x (omega arith)))
split false component x h = refl

module _ (format : Format) (e : List ℕ) where
  case_sum : (f : (ℕ → ℕ → ℕ) → ℕ → ℕ) → sum_to (events_in format e).count (f (amounts_in format e))
      ≡ sum_to (case_in format [] [] [] e).events.count (f (case_in format [] [] [] e).a)
  unfolding case_in events_in
  case_sum f = refl

  time_total_is : (levels : List ℕ) (i h : ℕ)
      → component_increase format e levels i 4 (events_in format e).count h + component_increase format e levels i 5 (events_in format e).count h
      + component_increase format e levels i 6 (events_in format e).count h ≡ time_total_in (case_in format [] [] [] e) levels i h
  unfolding component_increase counted_increase component_bid time_total_in
  time_total_is levels i h =
      sym (sum_three (events_in format e).count (share 4) (share 5) (share 6))
      ∙ sum_same (events_in format e).count _ _
      (λ j l.
      split (time_bid (case_in format [] [] [] e) i j) ((case_in format [] [] [] e).events.component j) (increase (get_or levels j 0) (amounts_in format e j h))
      (λ t. let f = time_fields (case_in format [] [] [] e) i j t in (f.least, f.most)))
      ∙ case_sum (λ a j. cond (time_bid (case_in format [] [] [] e) i j) (increase (get_or levels j 0) (a j h)) 0)
    where
      share : ℕ → ℕ → ℕ
      share k j =
          cond (time_bid (case_in format [] [] [] e) i j && eqb ((case_in format [] [] [] e).events.component j) k)
          (increase (get_or levels j 0) (amounts_in format e j h)) 0

-- ---- what the test of a bid reads

total_read_is : (c : Case) (levels : List ℕ) (i j h : ℕ) → time_bid c i j ≡ true → total_read c levels j h ≡ time_total_in c levels j h
unfolding total_read
total_read_is c levels i j h t =
    let f = time_fields c i j t in
    rw (le-leb 4 (c.events.component j) f.least, le-leb (c.events.component j) 6 f.most)

-- the totals are those of a unit, day and market
total_fields : (c : Case) (levels : List ℕ) (i j h : ℕ) → time_bid c i j ≡ true → time_total_in c levels j h ≡ time_total_in c levels i h
unfolding time_total_in time_bid
total_fields c levels i j h t =
    let f = time_fields c i j t in
    let eu = f.unit in
    let ed = f.day in
    let em = f.market in
    sum_same c.events.count _ _ (λ m l. rw (eu, ed, em))

-- a component reads them where its event is a time bid
reads : (c : Case) (i : ℕ) → BidsInOrder c.events → i < c.events.count
    → time_bid c i i ≡ (leb 4 (c.events.component i) && leb (c.events.component i) 6)
unfolding time_bid
reads c i o l =
    same_test _ _
    (λ t.
    let least : leb 4 (c.events.component i) ≡ true = search (and_l, and_r) depth 8 in
    let most : leb (c.events.component i) 6 ≡ true = search (and_l, and_r) depth 8 in
    and_both _ _ least most)
    (λ t.
    let least = leb-true 4 (c.events.component i) (and_l _ _ t) in
    let kind = o.bid i l (omega arith) in
    rw (
      eq-eqb (c.events.kind i) 4 kind,
      eq-eqb (c.events.unit i) (c.events.unit i) refl,
      eq-eqb (c.events.day i) (c.events.day i) refl,
      eq-eqb (c.events.market i) (c.events.market i) refl,
    ) t)

module _ (format : Format) (e levels : List ℕ) (i : ℕ) where
  pub totals_of : (row : List ℕ) (t : List (List ℕ)) → time_bid (case_in format [] [] [] e) i i ≡ true
      → HasIncreases (λ k. component_increase format e levels i (4 + k) (events_in format e).count) t
      → HasRow (λ h. cell t 0 h + cell t 1 h + cell t 2 h) row → HasRow (total_read (case_in format [] [] [] e) levels i) row
  totals_of row t own ht hr =
      record {
        each = λ h l.
            hr.each h l
            ∙ ap₂ (λ (x y : ℕ). x + y) (ap₂ (λ (x y : ℕ). x + y) (ht.each 0 h (omega arith) l) (ht.each 1 h (omega arith) l))
            (ht.each 2 h (omega arith) l)
            ∙ time_total_is format e levels i h
            ∙ sym (total_read_is (case_in format [] [] [] e) levels i i h own);
      }

  pub totals_none : BidsInOrder (events_in format e) → i < (events_in format e).count → time_bid (case_in format [] [] [] e) i i ≡ false
      → HasRow (total_read (case_in format [] [] [] e) levels i) (replicate most_hours 0)
  unfolding total_read case_in events_in
  totals_none o l own =
      record {
        each = λ h m.
            zeros_at most_hours h
            ∙ ap (λ (b : Bool). cond b (time_total_in (case_in format [] [] [] e) levels i h) 0)
            (sym own ∙ reads (case_in format [] [] [] e) i o l);
      }

-- ---- carried from event to event

module _ (c : Case) (levels row : List ℕ) (i : ℕ) where
  pub totals_kept : same_totals c i ≡ true → HasRow (total_before c levels i) row → HasRow (total_read c levels i) row
  unfolding same_totals total_before
  totals_kept q r =
      let later : ltb 0 i ≡ true = search (and_l, and_r) in
      let own : time_bid c i i ≡ true = search (and_l, and_r) in
      let last : time_bid c i (i - 1) ≡ true = search (and_l, and_r) in
      let positive = ltb-true 0 i later in
      let n : eqb i 0 ≡ false = ne_eqb i 0 (λ z. let k : ⊥ = omega arith in k) in
      record {
        each = λ h l.
            (rw n at (r.each h l))
            ∙ total_read_is c levels i (i - 1) h last
            ∙ total_fields c levels i (i - 1) h last
            ∙ sym (total_read_is c levels i i h own);
      }

  pub totals_next : HasRow (total_read c levels i) row → HasRow (total_before c levels (i + 1)) row
  unfolding total_before
  totals_next r =
      record {
        each = λ h l.
            let e : i ≡ i + 1 - 1 = omega arith in
            let n : eqb (i + 1) 0 ≡ false = ne_eqb (i + 1) 0 (λ z. let q : ⊥ = omega arith in q) in
            r.each h l
            ∙ ap (λ (k : ℕ). total_read c levels k h) e
            ∙ ap (λ (b : Bool). cond b 0 (total_read c levels (i + 1 - 1) h)) (sym n);
      }

pub totals_first : (c : Case) (levels : List ℕ) → HasRow (total_before c levels 0) (replicate most_hours 0)
unfolding total_before
totals_first c levels = record { each = λ h l. zeros_at most_hours h }
