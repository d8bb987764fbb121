-- Units and references in their order: a unit found by counting, a reference by halving.
use Prim.Native.Nat.{ℕ, ◌+◌, ◌-◌, ◌*◌, ◌≤◌, ◌<◌}
use mathlib.Core.Bool.{Bool, true, false, cond, ◌&&◌}
use mathlib.Core.Logic.{⊎_elim}
use mathlib.Core.Path.{◌≡◌, refl, sym, ap, ap₂, subst, ◌∙◌}
use native.Mathlib.Nat.{eq-or-lt_of_le, le_refl}
use native.Mathlib.Omega.{arith}
use lib.Dec.{ltb, eqb}
use borrow.Author.Tests.{ltb-true, ltb-false, eqb-true, eq-eqb}
use Rattle.binary.specs.Bounded.{last_to}
use Rattle.binary.proofs.Implies.{and_l, and_r}
use Rattle.binary.proofs.BoundedLaws.{any_true, last_holds}
use Rattle.binary.proofs.ListLaws.{up_to}
use Rattle.casefile.specs.Case.{Units, References}
use Rattle.casefile.specs.Lookup.{is_unit, is_listed, place_of, is_reference, has_reference, level_of, reference_key}
use Rattle.limits.specs.StageLookup.{Rising, Between}
use Rattle.limits.proofs.LookupLaws.{last_below, listed_place, listed_number, unlisted_place}

-- ---- one halving

module _ (key : ℕ → ℕ) (n target lo hi middle : ℕ) (rise : Rising key n) (b : Between key n target lo hi) (l : lo ≤ middle) (m : middle < hi) where
  pub halve : (below : Bool) → ltb (key middle) target ≡ below → Between key n target (cond below (middle + 1) lo) (cond below hi middle)
  halve true e =
      record {
        order = omega arith;
        end = b.end;
        before = λ j lj. up_to (λ (x : ℕ). key x < target) middle j lj (ltb-true (key middle) target e)
            (λ lt. let r = rise j middle lt (omega (arith, b.end)) in omega (arith, ltb-true (key middle) target e));
        after = b.after;
      }
  halve false e =
      record {
        order = l;
        end = omega (arith, b.end);
        before = b.before;
        after = λ j mj lj. ⊎_elim
            (λ q. subst (λ (x : ℕ). target ≤ key x) q (ltb-false (key middle) target e))
            (λ lt. let r = rise middle j lt lj in omega (arith, ltb-false (key middle) target e))
            (eq-or-lt_of_le mj);
      }

  pub halve_less : (below : Bool) → cond below hi middle - cond below (middle + 1) lo < hi - lo
  halve_less true = omega arith
  halve_less false = omega arith

-- ---- one more counted

-- how many of the first k are below the target is the first place that is not
pub count_turn : (key : ℕ → ℕ) (n target k at : ℕ) → Rising key n → k < n → Between key k target at at → (below : Bool)
    → ltb (key k) target ≡ below → Between key (k + 1) target (at + cond below 1 0) (at + cond below 1 0)
count_turn key n target k at rise l b true e =
    record {
      order = le_refl _;
      end = omega (arith, b.end);
      before = λ j lj. up_to (λ (x : ℕ). key x < target) k j (omega (arith, b.end)) low (λ q. let r = rise j k q l in omega (arith, low));
      after = λ j g h. absurd (omega (arith, full (ltb at k) refl));
    }
  where
    low : key k < target
    low = ltb-true (key k) target e

    full : (t : Bool) → ltb at k ≡ t → k ≤ at
    full true t =
        let a = ltb-true at k t in
        absurd (let r = rise at k a l in let s = b.after at (le_refl at) a in omega (arith, low))
    full false t = ltb-false at k t
count_turn key n target k at rise l b false e =
    record {
      order = le_refl _;
      end = omega (arith, b.end);
      before = λ j lj. b.before j (omega arith);
      after = λ j g h. up_to (λ (x : ℕ). target ≤ key x) k j h (ltb-false (key k) target e) (λ q. b.after j (omega arith) q);
    }

-- ---- what the place found says

-- a key stands at no place but that where the search ends
module _ (key : ℕ → ℕ) (n target p : ℕ) (rise : Rising key n) (b : Between key n target p p) where
  same_place : (q : ℕ) → q < n → key q ≡ target → q ≡ p
  same_place q l e = go (ltb q p) refl
    where
      go : (t : Bool) → ltb q p ≡ t → q ≡ p
      go true t = absurd (let s = b.before q (ltb-true q p t) in omega (arith, e))
      go false t =
          ⊎_elim sym
          (λ lt. absurd (let s = b.after p (le_refl p) (omega arith) in let u = rise p q lt l in omega (arith, e)))
          (eq-or-lt_of_le (ltb-false q p t))

-- ---- a unit by its number

module _ (u : Units) (number : ℕ) (rise : Rising u.number u.count) (p : ℕ) (b : Between u.number u.count number p p) where
  pub unit_place : is_listed u number ≡ true → place_of u number ≡ p
  unit_place h = same_place u.number u.count number p rise b (place_of u number) (listed_place u number h) (listed_number u number h)

  unit_here : p < u.count → eqb (u.number p) number ≡ true → is_listed u number ≡ true
  unfolding is_listed is_unit
  unit_here l e = any_true u.count p (is_unit u number) l e

  unit_there : is_listed u number ≡ true → eqb (u.number p) number ≡ true
  unit_there h = eq-eqb (u.number p) number (subst (λ (x : ℕ). u.number x ≡ number) (unit_place h) (listed_number u number h))

  pub listed_at : p < u.count → eqb (u.number p) number ≡ is_listed u number
  listed_at l = go (eqb (u.number p) number) refl (is_listed u number) refl
    where
      go : (x : Bool) → eqb (u.number p) number ≡ x → (y : Bool) → is_listed u number ≡ y → eqb (u.number p) number ≡ is_listed u number
      go true e y h = e ∙ sym (unit_here l e)
      go false e true h = unit_there h ∙ sym h
      go false e false h = e ∙ sym h

  pub listed_none : u.count ≤ p → is_listed u number ≡ false
  listed_none l = go (is_listed u number) refl
    where
      go : (y : Bool) → is_listed u number ≡ y → is_listed u number ≡ false
      go true h = absurd (let s = listed_place u number h in let e = unit_place h in omega arith)
      go false h = h

  pub placed_at : p < u.count → cond (eqb (u.number p) number) p 0 ≡ place_of u number
  placed_at l = rw (listed_at l) (go (is_listed u number) refl)
    where
      go : (y : Bool) → is_listed u number ≡ y → cond y p 0 ≡ place_of u number
      go true h = sym (unit_place h)
      go false h = sym (unlisted_place u number h)

  pub placed_none : u.count ≤ p → place_of u number ≡ 0
  placed_none l = unlisted_place u number (listed_none l)

-- ---- a reference by its unit and component

-- a key of unit and component
key_unit : (u c u' c' : ℕ) → c < 256 → c' < 256 → 256 * u + c ≡ 256 * u' + c' → u ≡ u'
key_unit u c u' c' l l' e = omega arith

module _ (r : References) (unit component : ℕ) (rise : Rising (reference_key r) r.count) (small : component < 256)
    (bytes : (j : ℕ) → j < r.count → r.component j < 256) where
  of_key : (j : ℕ) → is_reference r unit component j ≡ true → reference_key r j ≡ 256 * unit + component
  unfolding is_reference reference_key
  of_key j h =
      let u : r.unit j ≡ unit = eqb-true (r.unit j) unit (search (and_l, and_r)) in
      let c : r.component j ≡ component = eqb-true (r.component j) component (search (and_l, and_r)) in
      omega arith

  with_key : (j : ℕ) → j < r.count → reference_key r j ≡ 256 * unit + component → is_reference r unit component j ≡ true
  unfolding is_reference reference_key
  with_key j l e =
      let s = bytes j l in
      let u : r.unit j ≡ unit = key_unit (r.unit j) (r.component j) unit component s small e in
      let c : r.component j ≡ component = omega arith in
      ap₂ ◌&&◌ (eq-eqb (r.unit j) unit u) (eq-eqb (r.component j) component c)

  -- p is where the search ends
  module _ (p : ℕ) (b : Between (reference_key r) r.count (256 * unit + component) p p) where
    only : (q : ℕ) → q < r.count → reference_key r q ≡ 256 * unit + component → q ≡ p
    only = same_place (reference_key r) r.count (256 * unit + component) p rise b

    found_place : has_reference r unit component ≡ true → last_to r.count (is_reference r unit component) ≡ p
    unfolding has_reference
    found_place h =
        only (last_to r.count (is_reference r unit component)) (last_below r.count (is_reference r unit component) h)
        (of_key (last_to r.count (is_reference r unit component)) (last_holds r.count (is_reference r unit component) h))

    found_below : has_reference r unit component ≡ true → p < r.count
    unfolding has_reference
    found_below h = subst (λ (x : ℕ). x < r.count) (found_place h) (last_below r.count (is_reference r unit component) h)

    pub found_level : has_reference r unit component ≡ true → r.value p ≡ level_of r unit component
    unfolding level_of
    found_level h = ap r.value (sym (found_place h))

    here : p < r.count → eqb (reference_key r p) (256 * unit + component) ≡ true → has_reference r unit component ≡ true
    unfolding has_reference
    here l e = any_true r.count p (is_reference r unit component) l (with_key p l (eqb-true (reference_key r p) (256 * unit + component) e))

    there : has_reference r unit component ≡ true → eqb (reference_key r p) (256 * unit + component) ≡ true
    unfolding has_reference
    there h =
        eq-eqb (reference_key r p) (256 * unit + component)
        (subst (λ (x : ℕ). reference_key r x ≡ 256 * unit + component) (found_place h)
        (of_key (last_to r.count (is_reference r unit component)) (last_holds r.count (is_reference r unit component) h)))

    pub found_at : p < r.count → eqb (reference_key r p) (256 * unit + component) ≡ has_reference r unit component
    found_at l = go (eqb (reference_key r p) (256 * unit + component)) refl (has_reference r unit component) refl
      where
        go : (x : Bool) → eqb (reference_key r p) (256 * unit + component) ≡ x → (y : Bool) → has_reference r unit component ≡ y
            → eqb (reference_key r p) (256 * unit + component) ≡ has_reference r unit component
        go true e y h = e ∙ sym (here l e)
        go false e true h = there h ∙ sym h
        go false e false h = e ∙ sym h

    pub found_none : r.count ≤ p → has_reference r unit component ≡ false
    found_none l = go (has_reference r unit component) refl
      where
        go : (y : Bool) → has_reference r unit component ≡ y → has_reference r unit component ≡ false
        go true h = absurd (let s = found_below h in omega arith)
        go false h = h
