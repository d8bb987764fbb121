-- Rows of sums: what a turn of the adding loops leaves, and that the sums of a leader are those of each event of its party.
use Prim.Native.Nat.{ℕ, zero, suc, ◌+◌, ◌*◌, ◌^◌, ◌≤◌, ◌<◌, zero-le}
use mathlib.Core.Bool.{Bool, true, false, cond, ◌&&◌}
use mathlib.Core.List.{List, []}
use mathlib.Core.Path.{◌≡◌, refl, sym, ap, ◌∙◌}
use mathlib.Core.Logic.{⊎_elim}
use native.Mathlib.Nat.{add-zero, le_refl, eq-or-lt_of_le}
use native.Mathlib.Omega.{arith}
use borrow.Author.Tests.{eqb-true, eqb-false, eq-eqb, ne_eqb, ltb-true, ltb-false, lt-ltb, le-ltb}
use lib.Dec.{ltb, eqb}
use lib.ListN.{length, get_or, set, replicate, get_or-replicate, get_or-eq_default, length-replicate}
use lib.Seq.{get_or-set_same, get_or-set_other}
use Rattle.binary.specs.Bounded.{sum_to, count_to, bit_of}
use Rattle.binary.specs.Bytes.{u32_at}
use Rattle.binary.specs.Lists.{Bytes}
use Rattle.binary.proofs.Implies.{same_test}
use Rattle.binary.proofs.BoundedLaws.{sum_none, sum_more, sum_same, any_count}
use Rattle.casefile.specs.declared.layout.Format.{Format}
use Rattle.casefile.specs.Layout.{most_hours, cell_width}
use Rattle.casefile.specs.Case.{Case}
use Rattle.casefile.specs.Decode.{events_in, amounts_in, case_in, cells_from, cells_in}
use Rattle.casefile.specs.Lookup.{group_of, together}
use Rattle.casefile.specs.StageRead.{cell_of}
use Rattle.casefile.proofs.RecordLaws.{value_lt, cells_bytes}
use Rattle.party_runs.proofs.PartyLaws.{together_fields}
use Rattle.conduct.specs.Flags.{sum_together, group_sum, group_capability, fuel_flag}
use Rattle.conduct.specs.StageFlags.{Added, counted, party_figure, led_sum, PartyWithin, HasRow, capability_share, capability_of}

-- ---- choices and sums

cond_zero : (b : Bool) (x : ℕ) → (b ≡ true → ⊥) → cond b x 0 ≡ 0
cond_zero true x h = absurd (h refl)
cond_zero false x h = refl

pub cond_le : (b : Bool) (x m : ℕ) → x ≤ m → cond b x 0 ≤ m
cond_le true x m l = l
cond_le false x m l = zero-le

-- a choice that is compared where the test passes
pub cond_given : (b : Bool) (x y : ℕ) → (b ≡ true → x ≡ y) → cond b x 0 ≡ cond b y 0
cond_given true x y h = h refl
cond_given false x y h = refl

pub and_both : (a b : Bool) → a ≡ true → b ≡ true → (a && b) ≡ true
and_both true b p q = q
and_both false b p q = p

-- members from m on that are 0 add nothing
pub sum_beyond : (m n : ℕ) (f : ℕ → ℕ) → m ≤ n → ((j : ℕ) → m ≤ j → j < n → f j ≡ 0) → sum_to n f ≡ sum_to m f
unfolding sum_to
sum_beyond m zero f l h = let e : m ≡ 0 = omega arith in rw e
sum_beyond m (suc n) f l h =
    ⊎_elim (λ (e : m ≡ suc n). rw e)
    (λ (q : m < suc n). rw (h n (omega arith) (omega arith), add-zero) (sum_beyond m n f (omega arith) (λ j a b. h j a (omega arith))))
    (eq-or-lt_of_le l)

-- ---- the cells of an event

pub cell_amount : (format : Format) (s : List ℕ) (i h : ℕ) → (cell_of (cells_from format s i) h).a ≡ amounts_in format s i h
unfolding cell_of amounts_in cells_in
cell_amount format s i h = refl

amount_lt : (format : Format) (s : List ℕ) (i h : ℕ) → Bytes s → amounts_in format s i h ≤ 4294967295
unfolding amounts_in
amount_lt format s i h b = let q : u32_at (cells_in format s i) (cell_width * h) < 256 ^ 4 = value_lt 4 (cells_in format s i) (cell_width * h) (cells_bytes format s i b) in omega arith

-- ---- a loop that adds to a row

pub added_none : (l : List ℕ) (f : ℕ → ℕ) → Added 0 l l f
added_none l f = record { each = λ k. rw (le-ltb k 0 zero-le) (sym (add-zero _)) }

-- the same figures
pub added_same : (m : ℕ) (old new : List ℕ) (f g : ℕ → ℕ) → ((k : ℕ) → f k ≡ g k) → Added m old new f → Added m old new g
added_same m old new f g h a = record { each = λ k. a.each k ∙ ap (λ (x : ℕ). get_or old k 0 + cond (ltb k m) x 0) (h k) }

-- what is not yet added to is as it was
pub row_kept : (m : ℕ) (old new : List ℕ) (f : ℕ → ℕ) → Added m old new f → get_or new m 0 ≡ get_or old m 0
row_kept m old new f a = a.each m ∙ rw (le-ltb m m (le_refl m)) (add-zero _)

pub row_more : (m x : ℕ) (old new : List ℕ) (f : ℕ → ℕ) → m < length new → x ≡ f m → Added m old new f
    → Added (m + 1) old (set new m (get_or new m 0 + x)) f
row_more m x old new f l e a = record { each = λ k. pick k (eqb k m) refl }
  where
    goal : ℕ → Type 0
    goal k = get_or (set new m (get_or new m 0 + x)) k 0 ≡ get_or old k 0 + cond (ltb k (m + 1)) (f k) 0

    here : (k : ℕ) → k ≡ m → goal k
    here k q = rw (q, lt-ltb m (m + 1) (omega arith), get_or-set_same new m (get_or new m 0 + x) 0 l, row_kept m old new f a, e)

    other : (k : ℕ) → (k ≡ m → ⊥) → goal k
    other k n =
        let t : ltb k m ≡ ltb k (m + 1) =
        same_test _ _ (λ h. let q = ltb-true k m h in lt-ltb k (m + 1) (omega arith))
        (λ h. let q = ltb-true k (m + 1) h in lt-ltb k m (omega arith)) in
        get_or-set_other new m k (get_or new m 0 + x) 0 n ∙ rw t at (a.each k)

    pick : (k : ℕ) (b : Bool) → eqb k m ≡ b → goal k
    pick k true q = here k (eqb-true _ _ q)
    pick k false q = other k (eqb-false _ _ q)

pub added_bound : (m b c : ℕ) (old new : List ℕ) (f : ℕ → ℕ) → Added m old new f → ((k : ℕ) → get_or old k 0 ≤ b)
    → ((h : ℕ) → h < m → f h ≤ c) → (k : ℕ) → get_or new k 0 ≤ b + c
added_bound m b c old new f a o u k = pick (ltb k m) refl
  where
    pick : (t : Bool) → ltb k m ≡ t → get_or new k 0 ≤ b + c
    pick true q =
        let e : get_or new k 0 ≡ get_or old k 0 + f k = rw q at (a.each k) in
        omega (arith, o k, u k (ltb-true k m q))
    pick false q =
        let e : get_or new k 0 ≡ get_or old k 0 + 0 = rw q at (a.each k) in
        omega (arith, o k)

-- a figure that does not count adds nothing
pub uncounted : (row : List ℕ) (f : ℕ → ℕ) (b : Bool) → b ≡ false → Added most_hours row row (counted b f)
unfolding counted
uncounted row f b e = record { each = λ k. rw e (sym (zero_of k (ltb k most_hours))) }
  where
    zero_of : (k : ℕ) (t : Bool) → get_or row k 0 + cond t 0 0 ≡ get_or row k 0
    zero_of k true = add-zero _
    zero_of k false = add-zero _

pub figure_counts : (f : ℕ → ℕ) (h x : ℕ) (b : Bool) → b ≡ true → x ≡ f h → x ≡ counted b f h
unfolding counted
figure_counts f h x b t e = e ∙ rw t

pub counted_figure_le : (f : ℕ → ℕ) (m n : ℕ) (b : Bool) → ((h : ℕ) → h < n → f h ≤ m) → (h : ℕ) → h < n → counted b f h ≤ m
unfolding counted
counted_figure_le f m n b u h l = cond_le b _ _ (u h l)

-- the whole row, after the loop
added_row : (old new : List ℕ) (f g : ℕ → ℕ) → HasRow f old → Added most_hours old new g → HasRow (λ h. f h + g h) new
added_row old new f g r a = record { each = λ h l. (rw (lt-ltb h most_hours l) at (a.each h)) ∙ ap (λ (x : ℕ). x + g h) (r.each h l) }

pub zeros_at : (n k : ℕ) → ◌≡◌ {A = ℕ} (get_or (replicate n 0) k 0) 0
zeros_at n k = pick (ltb k n) refl
  where
    pick : (b : Bool) → ltb k n ≡ b → ◌≡◌ {A = ℕ} (get_or (replicate n 0) k 0) 0
    pick true q = get_or-replicate n k 0 0 (ltb-true _ _ q)
    pick false q =
        get_or-eq_default (replicate n 0) 0 {n = k} (rw length-replicate (ltb-false k n q))

-- ---- the sums of a party

pub figures_added : (format : Format) (e : List ℕ) (j : ℕ) (b : Bool) (old new : List ℕ)
    → Added most_hours old new (counted b (λ h. cond (eqb ((events_in format e).kind j) 3) (cond (bit_of ((events_in format e).P j) h) 1 0) (cell_of (cells_from format e j) h).a))
    → Added most_hours old new (counted b (party_figure (case_in format [] [] [] e) j))
unfolding counted party_figure case_in
figures_added format e j b old new a = added_same most_hours old new _ _ (λ h. rw (cell_amount format e j h)) a

pub figure_le : (format : Format) (u r p e : List ℕ) (j h : ℕ) → Bytes e → party_figure (case_in format u r p e) j h ≤ 4294967295
unfolding party_figure case_in
figure_le format u r p e j h b = pick (eqb ((events_in format e).kind j) 3) (bit_of ((events_in format e).P j) h)
  where
    pick : (s t : Bool) → cond s (cond t 1 0) (amounts_in format e j h) ≤ 4294967295
    pick true true = omega arith
    pick true false = omega arith
    pick false t = amount_lt format e j h b

-- ---- the sums of the party that event i leads

module _ (c : Case) (leaders : List ℕ) (n i end : ℕ) (w : PartyWithin leaders n i end) where
  outside : (h k : ℕ) → k < n → ((i ≤ k) × (k < end) → ⊥) → cond (eqb (get_or leaders k 0) i) (party_figure c k h) 0 ≡ 0
  outside h k l out = cond_zero _ _ (λ q. out (w k l (eqb-true _ _ q)))

  pub led_first : i ≤ n → HasRow (led_sum c leaders i i) (replicate most_hours 0)
  unfolding led_sum
  led_first l =
      record {
        each = λ h b.
            zeros_at most_hours h ∙ sum_none (λ j. cond (eqb (get_or leaders j 0) i) (party_figure c j h) 0)
            ∙ sym (sum_beyond 0 i _ zero-le (λ k _ q. outside h k (omega arith) (λ z. let o : ⊥ = omega arith in o)));
      }

  pub led_last : (row : List ℕ) → end ≤ n → HasRow (led_sum c leaders end i) row → HasRow (led_sum c leaders n i) row
  unfolding led_sum
  led_last row l r =
      record { each = λ h b. r.each h b ∙ sym (sum_beyond end n _ l (λ k q s. outside h k s (λ z. let o : ⊥ = omega arith in o))) }

pub led_more : (c : Case) (leaders old new : List ℕ) (m i : ℕ) → HasRow (led_sum c leaders m i) old
    → Added most_hours old new (counted (eqb (get_or leaders m 0) i) (party_figure c m)) → HasRow (led_sum c leaders (m + 1) i) new
unfolding led_sum counted
led_more c leaders old new m i r a =
    record {
      each = λ h l.
          (added_row old new _ _ r a).each h l
          ∙ sym (sum_more m (λ j. cond (eqb (get_or leaders j 0) i) (party_figure c j h) 0));
    }

-- for kinds 1 and 2 that is S
pub sum_amounts : (c : Case) (i h : ℕ) → (c.events.kind i ≡ 3 → ⊥)
    → sum_to c.events.count (λ j. cond (together c i j) (party_figure c j h) 0) ≡ group_sum c i h
unfolding group_sum sum_together party_figure
sum_amounts c i h n =
    sum_same c.events.count _ _
    (λ j l.
    cond_given (together c i j) _ _
    (λ t.
    let s = together_fields c i j t in
    let no : eqb (c.events.kind j) 3 ≡ false = ne_eqb _ _ (λ q. n (sym s.kind ∙ q)) in
    rw no))

count_sum : (n : ℕ) (p : ℕ → Bool) → count_to n p ≡ sum_to n (λ j. cond (p j) 1 0)
unfolding count_to sum_to
count_sum zero p = refl
count_sum (suc n) p = ap (λ (x : ℕ). x + cond (p n) 1 0) (count_sum n p)

cond_and : (a b : Bool) → ◌≡◌ {A = ℕ} (cond (a && b) 1 0) (cond a (cond b 1 0) 0)
cond_and true b = refl
cond_and false b = refl

-- for kind 3 an hour is in the union where the sum is above 0
pub sum_union : (c : Case) (i h : ℕ) → c.events.kind i ≡ 3
    → ltb 0 (sum_to c.events.count (λ j. cond (together c i j) (party_figure c j h) 0)) ≡ fuel_flag c i h
unfolding fuel_flag party_figure
sum_union c i h e =
    sym
    (any_count c.events.count (λ j. together c i j && bit_of (c.events.P j) h)
    ∙ ap (ltb 0)
    (count_sum c.events.count (λ j. together c i j && bit_of (c.events.P j) h)
    ∙ sum_same c.events.count _ _
    (λ j l.
    cond_and (together c i j) (bit_of (c.events.P j) h)
    ∙ cond_given (together c i j) _ _
    (λ t.
    let s = together_fields c i j t in
    let yes : eqb (c.events.kind j) 3 ≡ true = eq-eqb _ _ (s.kind ∙ e) in
    rw yes))))

-- ---- G

pub capability_is : (c : Case) (i : ℕ) → capability_of c.units (group_of c i) ≡ group_capability c i
unfolding capability_of capability_share group_capability
capability_is c i = refl
