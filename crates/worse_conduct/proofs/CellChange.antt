-- A worse a, written into one cell of the file: the pairs follow on as before, and the case is worse.
use Prim.Native.Nat.{ℕ, ◌+◌, ◌-◌, ◌*◌, ◌/◌, ◌^◌, ◌≤◌, ◌<◌}
use mathlib.Core.Bool.{Bool, true, false, cond}
use mathlib.Core.List.{List}
use mathlib.Core.Logic.{◌≢◌, ◌⊎◌, inl, inr, ⊎_elim}
use mathlib.Core.Path.{◌≡◌, refl, sym, ◌∙◌, ap, ap₂, subst, subst₂}
use native.Mathlib.Nat.{le_refl}
use native.Mathlib.Decide.{ℕ_discrete}
use native.Mathlib.Omega.{arith}
use lib.Dec.{T, ltb, ltb→lt, leb→le, eqb→eq}
use borrow.Author.Tests.{eq-eqb, ne_eqb}
use lib.ListN.{length, take, drop}
use Rattle.binary.specs.Bytes.{byte_at, value_at, u32_at}
use Rattle.binary.specs.Word.{positive_part, negative_part}
use Rattle.binary.proofs.Implies.{and_left, and_right, or_cases, true→T}
use Rattle.binary.proofs.ByteLaws.{value_one, stretch_length}
use Rattle.casefile.specs.declared.layout.Format.{Format}
use Rattle.casefile.specs.Layout.{cells_offset, cell_width, most_hours, event_width, event_unit, number_width, cells}
use Rattle.casefile.specs.Decode.{format_in, case_in, offset_of, length_of, section_of, FollowOn, record_at, units_in, references_in, past_in, cell_at, cells_from, cells_in, events_in, amounts_in, decode}
use Rattle.casefile.proofs.RecordLaws.{record_end, one_record, fits}
use Rattle.worse_conduct.specs.Changes.{cell, cell_place, cell_written, more_withheld, lower_bid, moved_bid, worse_bid, worse_amount, apply, WorseCell}
use Rattle.worse_conduct.proofs.StoredWord.{Stored, sets_stored, value_apart, stretch_apart, stretch_stored}
use Rattle.worse_conduct.proofs.FormatKept.{format_kept}
use Rattle.worse_conduct.proofs.WorseCase.{WorseAmounts, MoreEntries, Worse, entries_refl}

-- ---- what a worse amount is, by kind

one_sign : (x : ℕ) → (positive_part 32 x ≡ 0) ⊎ (negative_part 32 x ≡ 0)
unfolding positive_part negative_part
one_sign x = go (ltb x (2 ^ 31))
  where
    go : (t : Bool) → (cond t x 0 ≡ 0) ⊎ (cond t 0 (2 ^ 32 - x) ≡ 0)
    go true = inr refl
    go false = inl refl

lower_positive : (x y : ℕ) → T (lower_bid x y) → positive_part 32 x ≤ positive_part 32 y
unfolding lower_bid
lower_positive x y t = go (one_sign x) (one_sign y)
  where
    go : (positive_part 32 x ≡ 0) ⊎ (negative_part 32 x ≡ 0) → (positive_part 32 y ≡ 0) ⊎ (negative_part 32 y ≡ 0)
        → positive_part 32 x ≤ positive_part 32 y
    go (inl p) q = omega arith
    go (inr p) (inl q) = omega (arith, ltb→lt)
    go (inr p) (inr q) = omega (arith, ltb→lt)

moved_higher : (component x w : ℕ) → component ≢ 8 → T (moved_bid component x w) → positive_part 32 x ≤ positive_part 32 w
unfolding moved_bid
moved_higher component x w n t = lower_positive x w (rw (ne_eqb component 8 n) at t)

moved_lower : (component x w : ℕ) → component ≡ 8 → T (moved_bid component x w) → positive_part 32 w ≤ positive_part 32 x
unfolding moved_bid
moved_lower component x w e t = lower_positive w x (rw (eq-eqb component 8 e) at t)

-- what w is against the x before it, for an event of that kind and component
record WorseThan (kind component x w : ℕ) : Type 0 where
  withheld : kind ≤ 2 → x ≤ w
  fuel : kind ≡ 3 → x ≡ w
  higher : kind ≡ 4 → component ≢ 8 → positive_part 32 x ≤ positive_part 32 w
  lower : kind ≡ 4 → component ≡ 8 → positive_part 32 w ≤ positive_part 32 x

more_withheld_holds : (kind component x w : ℕ) → T (more_withheld kind x w) → WorseThan kind component x w
unfolding more_withheld
more_withheld_holds kind component x w t =
    let l : x < w = ltb→lt x w (search and_right) in
    let k : kind ≤ 2 = leb→le kind 2 (search (and_left, and_right)) in
    record {
      withheld = λ _. omega arith;
      fuel = λ e. absurd (omega arith);
      higher = λ e n. absurd (omega arith);
      lower = λ e n. absurd (omega arith);
    }

worse_bid_holds : (kind component x w : ℕ) → T (worse_bid kind component x w) → WorseThan kind component x w
unfolding worse_bid
worse_bid_holds kind component x w t =
    let k : kind ≡ 4 = eqb→eq kind 4 (search and_left) in
    let m : T (moved_bid component x w) = search and_right in
    record {
      withheld = λ l. absurd (omega arith);
      fuel = λ e. absurd (omega arith);
      higher = λ e n. moved_higher component x w n m;
      lower = λ e n. moved_lower component x w n m;
    }

worse_than : (kind component x w : ℕ) → T (worse_amount kind component x w) → WorseThan kind component x w
unfolding worse_amount
worse_than kind component x w t = go (or_cases (more_withheld kind x w) (worse_bid kind component x w) t)
  where
    go : T (more_withheld kind x w) ⊎ T (worse_bid kind component x w) → WorseThan kind component x w
    go (inl s) = more_withheld_holds kind component x w s
    go (inr s) = worse_bid_holds kind component x w s

-- ---- the events section with a word stored into a cell

-- a unit's number stands apart from every a
number_apart : (format : Format) (h : ℕ) → h < most_hours → (j k : ℕ) → j < number_width format → k < 4 → event_unit format + j ≢ cell_at h + k
number_apart format h lh j k lj lk e =
    ⊎_elim (λ (before : event_unit format + number_width format ≤ cells_offset). omega arith)
    (λ (after : cells_offset + cell_width * most_hours ≤ event_unit format). omega arith) (fits format).event_apart

module _ (format : Format) (s s' : List ℕ) (i h w : ℕ) (lh : h < most_hours) (z : Stored s s' (event_width format * i + cell_at h) w) where
  other_record : (x : ℕ) → x ≢ i → record_at (event_width format) s' x ≡ record_at (event_width format) s x
  unfolding record_at
  other_record x n =
      let f = fits format in
      stretch_apart z (event_width format * x) (event_width format)
      (λ j k lj lk e. n (one_record (event_width format) x i j (cell_at h + k) lj (omega arith) (omega arith)))

  this_record : Stored (record_at (event_width format) s i) (record_at (event_width format) s' i) (cell_at h) w
  unfolding record_at
  this_record =
      let f = fits format in stretch_stored s s' (event_width format * i) (event_width format) (cell_at h) w z (omega arith)

  other_cells : (x : ℕ) → x ≢ i → cells_in format s' x ≡ cells_in format s x
  unfolding cells_in cells_from
  other_cells x n = ap (λ (r : List ℕ). take (cell_width * cells format) (drop cells_offset r)) (other_record x n)

  this_cells : Stored (cells_in format s i) (cells_in format s' i) (cell_width * h) w
  unfolding cells_in cells_from
  this_cells =
      stretch_stored (record_at (event_width format) s i) (record_at (event_width format) s' i) cells_offset (cell_width * cells format)
      (cell_width * h) w this_record (omega arith)

  -- a number that lies apart from that a, in a part of the record where that a stands at p
  number_same : (part : List ℕ → ℕ → List ℕ) (p : ℕ) → ((x : ℕ) → x ≢ i → part s' x ≡ part s x) → Stored (part s i) (part s' i) p w
      → (n q : ℕ) → ((j k : ℕ) → j < n → k < 4 → q + j ≢ p + k) → (x : ℕ) → value_at n (part s x) q ≡ value_at n (part s' x) q
  number_same part p other this n q apart x = go (ℕ_discrete x i)
    where
      go : Dec (x ≡ i) → value_at n (part s x) q ≡ value_at n (part s' x) q
      go (no d) = ap (λ (r : List ℕ). value_at n r q) (sym (other x d))
      go (yes e) = rw e (sym (value_apart this n q apart))

  field : (n q : ℕ) → ((j k : ℕ) → j < n → k < 4 → q + j ≢ cell_at h + k) → (x : ℕ)
      → value_at n (record_at (event_width format) s x) q ≡ value_at n (record_at (event_width format) s' x) q
  field = number_same (record_at (event_width format)) (cell_at h) other_record this_record

  cell_field : (q : ℕ) → ((j k : ℕ) → j < 4 → k < 4 → q + j ≢ cell_width * h + k) → (x : ℕ)
      → u32_at (cells_in format s x) q ≡ u32_at (cells_in format s' x) q
  cell_field = number_same (cells_in format) (cell_width * h) other_cells this_cells 4

  head_byte : (q : ℕ) → q < cells_offset → (x : ℕ)
      → byte_at (record_at (event_width format) s x) q ≡ byte_at (record_at (event_width format) s' x) q
  head_byte q l x =
      sym (value_one (record_at (event_width format) s x) q) ∙ field 1 q (omega arith) x ∙ value_one (record_at (event_width format) s' x) q

  events_same : events_in format s ≡ events_in format s'
  unfolding events_in
  events_same = λ t.
      record {
        count = ap (λ (n : ℕ). n / event_width format) (sym z.size) t;
        kind = λ x. head_byte 0 (omega arith) x t;
        market = λ x. head_byte 1 (omega arith) x t;
        unit = λ x. field (number_width format) (event_unit format) (number_apart format h lh) x t;
        period = λ x. field 2 4 (omega arith) x t;
        component = λ x. head_byte 6 (omega arith) x t;
        impact = λ x. head_byte 7 (omega arith) x t;
        day = λ x. field 4 8 (omega arith) x t;
        hours = λ x. cells format;
        P = λ x. field 4 12 (omega arith) x t;
        Q = λ x. field 4 16 (omega arith) x t;
        R = λ x. field 4 20 (omega arith) x t;
        b = λ x y. cell_field (cell_width * y + 4) (omega arith) x t;
        m = λ x y. cell_field (cell_width * y + 8) (omega arith) x t;
      }

  this_cell : amounts_in format s' i h ≡ w
  unfolding amounts_in
  this_cell = this_cells.value

  -- every other a stays
  same_cell : (x y : ℕ) → Dec (x ≡ i) → Dec (y ≡ h) → ((x ≡ i) × (y ≡ h)) ⊎ (amounts_in format s x y ≡ amounts_in format s' x y)
  unfolding amounts_in
  same_cell x y (yes p) (yes q) = inl (p, q)
  same_cell x y (no p) d = inr (ap (λ (r : List ℕ). u32_at r (cell_width * y)) (sym (other_cells x p)))
  same_cell x y (yes p) (no q) = inr (cell_field (cell_width * y) (λ j k lj lk e. q (omega arith)) x)

  each_cell : (Q : ℕ → ℕ → ℕ → Type 0) → Q i h w → ((x y : ℕ) → Q x y (amounts_in format s x y)) → (x y : ℕ) → Q x y (amounts_in format s' x y)
  each_cell Q here there x y = go (same_cell x y (ℕ_discrete x i) (ℕ_discrete y h))
    where
      go : ((x ≡ i) × (y ≡ h)) ⊎ (amounts_in format s x y ≡ amounts_in format s' x y) → Q x y (amounts_in format s' x y)
      go (inl p) =
          subst₂ (λ (x y : ℕ). Q x y (amounts_in format s' x y)) (sym p.0) (sym p.1) (subst (Q i h) (sym this_cell) here)
      go (inr e) = subst (Q x y) e (there x y)

  amounts_worse : WorseThan ((events_in format s).kind i) ((events_in format s).component i) (amounts_in format s i h) w
      → WorseAmounts (events_in format s) (amounts_in format s) (amounts_in format s')
  amounts_worse t =
      record {
        withheld = λ x y _ k.
            each_cell (λ x y v. (events_in format s).kind x ≤ 2 → amounts_in format s x y ≤ v) t.withheld (λ x y _. le_refl _) x y k;
        fuel = λ x y k.
            each_cell (λ x y v. (events_in format s).kind x ≡ 3 → amounts_in format s x y ≡ v) t.fuel (λ x y _. refl) x y k;
        higher = λ x y k n.
            each_cell
            (λ x y v. (events_in format s).kind x ≡ 4 → (events_in format s).component x ≢ 8 → positive_part 32 (amounts_in format s x y) ≤ positive_part 32 v)
            t.higher (λ x y _ _. le_refl _) x y k n;
        lower = λ x y k n.
            each_cell
            (λ x y v. (events_in format s).kind x ≡ 4 → (events_in format s).component x ≡ 8 → positive_part 32 v ≤ positive_part 32 (amounts_in format s x y))
            t.lower (λ x y _ _. le_refl _) x y k n;
      }

-- ---- the file

module _ (f g : List ℕ) (L : FollowOn f) (q w : ℕ) (z : Stored f g (offset_of f 3 + q) w) where
  offset_same : (k : ℕ) → k < 4 → offset_of g k ≡ offset_of f k
  unfolding offset_of
  offset_same k l = value_apart z 4 (4 + 8 * k) (omega arith)

  length_same : (k : ℕ) → k < 4 → length_of g k ≡ length_of f k
  unfolding length_of
  length_same k l = value_apart z 4 (8 + 8 * k) (omega arith)

  section_same : (k : ℕ) → k < 4 → offset_of f k + length_of f k ≤ offset_of f 3 → section_of f k ≡ section_of g k
  unfolding section_of
  section_same k l b =
      sym (ap₂ (λ (o n : ℕ). take n (drop o g)) (offset_same k l) (length_same k l)
      ∙ stretch_apart z (offset_of f k) (length_of f k) (omega arith))

  events_stored : q + 4 ≤ length_of f 3 → Stored (section_of f 3) (section_of g 3) q w
  unfolding section_of
  events_stored b =
      rw (offset_same 3 (omega arith), length_same 3 (omega arith))
      (stretch_stored f g (offset_of f 3) (length_of f 3) q w z b)

  follow : FollowOn g
  follow =
      let o0 = offset_same 0 (omega arith) in
      let o1 = offset_same 1 (omega arith) in
      let o2 = offset_same 2 (omega arith) in
      let o3 = offset_same 3 (omega arith) in
      let n0 = length_same 0 (omega arith) in
      let n1 = length_same 1 (omega arith) in
      let n2 = length_same 2 (omega arith) in
      let n3 = length_same 3 (omega arith) in
      let n = z.size in
      record { units = omega arith; references = omega arith; past = omega arith; events = omega arith; end = omega arith }

module _ (f : List ℕ) (L : FollowOn f) (i h w : ℕ) (c : WorseCell (decode f) i h w) where
  in_range : (event_width (format_in f) * i + event_width (format_in f) ≤ length_of f 3) × (h < most_hours)
  unfolding decode case_in events_in section_of
  in_range =
      let n : length (section_of f 3) ≡ length_of f 3 = stretch_length f (offset_of f 3) (length_of f 3) (omega arith) in
      let e = record_end (event_width (format_in f)) (length (section_of f 3)) i c.event in
      (omega arith, c.hour)

  -- the place lies within the events
  place : event_width (format_in f) * i + cell_at h + 4 ≤ length_of f 3
  place =
      let r = in_range in
      let t = fits (format_in f) in
      omega arith

  cell_stored : Stored f (cell_written i h w f) (offset_of f 3 + (event_width (format_in f) * i + cell_at h)) w
  unfolding cell_written cell_place
  cell_stored =
      let r = place in
      sets_stored f (offset_of f 3 + (event_width (format_in f) * i + cell_at h)) w (omega arith) c.word

  pub cell_follow : FollowOn (cell_written i h w f)
  cell_follow = follow f (cell_written i h w f) L (event_width (format_in f) * i + cell_at h) w cell_stored

  pub cell_worse : Worse (decode f) (decode (cell_written i h w f))
  unfolding decode case_in apply
  cell_worse =
      let g : List ℕ = cell_written i h w f in
      let q : ℕ = event_width (format_in f) * i + cell_at h in
      let r : h < most_hours = in_range.1 in
      let s : Stored (section_of f 3) (section_of g 3) q w = events_stored f g L q w cell_stored place in
      let kept : format_in g ≡ format_in f = format_kept (cell i h w) f L in
      rw kept
      (record {
        units = ap (units_in (format_in f)) (section_same f g L q w cell_stored 0 (omega arith) (omega arith));
        references = ap (references_in (format_in f)) (section_same f g L q w cell_stored 1 (omega arith) (omega arith));
        events = events_same (format_in f) (section_of f 3) (section_of g 3) i h w r s;
        past = subst (λ (x : List ℕ). MoreEntries (past_in (section_of f 2)) (past_in x))
            (section_same f g L q w cell_stored 2 (omega arith) (omega arith)) (entries_refl (past_in (section_of f 2)));
        amounts = amounts_worse (format_in f) (section_of f 3) (section_of g 3) i h w r s
            (worse_than _ _ _ w (true→T _ c.worse));
      })
