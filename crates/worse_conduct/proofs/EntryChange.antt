-- One past entry more in the file: the pairs follow on as before, and the case is worse.
use Prim.Native.Nat.{ℕ, ◌+◌, ◌-◌, ◌*◌, ◌/◌, ◌^◌, ◌≤◌, ◌<◌}
use mathlib.Core.List.{List}
use mathlib.Core.Logic.{◌≢◌}
use mathlib.Core.Path.{◌≡◌, sym, ◌∙◌, ap, ap₂, subst}
use native.Mathlib.Omega.{arith}
use lib.ListN.{length, take, drop, length-append, length-take, length-drop, get_or-append}
use lib.Seq.{sets, get_or-take, get_or-drop, get_or-append-add, length-take-le}
use Rattle.binary.specs.Bytes.{byte_at, bytes_of}
use Rattle.binary.proofs.BoundedLaws.{count_insert}
use Rattle.binary.proofs.ByteLaws.{value_same, stretch_length, stretch_byte, stretch_same}
use Rattle.casefile.specs.Layout.{header_width, longest_file, past_width}
use Rattle.casefile.specs.Decode.{format_in, case_in, offset_of, length_of, section_of, FollowOn, record_at, units_in, references_in, violation_in, past_in, events_in, amounts_in, decode}
use Rattle.worse_conduct.specs.Changes.{entry, entry_place, entry_put, longer_past, later_events, header_moved, apply, OneMoreEntry}
use Rattle.worse_conduct.proofs.StoredWord.{Stored, sets_stored, value_apart}
use Rattle.worse_conduct.proofs.FormatKept.{format_kept}
use Rattle.worse_conduct.proofs.WorseCase.{WorseAmounts, MoreEntries, Worse, amounts_refl}

-- ---- the parts of the change

module _ (k : ℕ) (e f : List ℕ) (l : entry_place f k ≤ length f) where
  put_length : length (entry_put k e f) ≡ length f + length e
  unfolding entry_put
  put_length = simp (length-append, length-take, length-drop) (omega arith)

  put_before : (j : ℕ) → j < entry_place f k → byte_at (entry_put k e f) j ≡ byte_at f j
  unfolding entry_put
  put_before j b =
      get_or-append (take (entry_place f k) f) _ 0 j (omega (arith, length-take-le (entry_place f k) f l))
      ∙ get_or-take (entry_place f k) f j 0 b

  put_after : (j : ℕ) → byte_at (entry_put k e f) (entry_place f k + (length e + j)) ≡ byte_at f (entry_place f k + j)
  unfolding entry_put
  put_after j =
      ap (λ (x : ℕ). byte_at (entry_put k e f) (x + (length e + j))) (sym (length-take-le (entry_place f k) f l))
      ∙ get_or-append-add (take (entry_place f k) f) _ (length e + j) 0
      ∙ get_or-append-add e _ j 0
      ∙ get_or-drop (entry_place f k) f j 0

-- g has these two fields in f's header, and is f but for them
record Moved (f g : List ℕ) (n o : ℕ) : Type 0 where
  size : length g ≡ length f
  other : (j : ℕ) → ((x : ℕ) → x < 8 → j ≢ 24 + x) → byte_at g j ≡ byte_at f j
  past_length : length_of g 2 ≡ n
  events_offset : offset_of g 3 ≡ o

header_moved_holds : (f : List ℕ) (n o : ℕ) → header_width ≤ length f → n < 2 ^ 32 → o < 2 ^ 32 → Moved f (header_moved n o f) n o
unfolding header_moved offset_of length_of
header_moved_holds f n o l ln lo =
    record {
      size = t.size ∙ s.size;
      other = λ j a. t.other j (λ x lx q. a (4 + x) (omega arith) (omega arith)) ∙ s.other j (λ x lx. a x (omega arith));
      past_length = value_apart t 4 24 (omega arith) ∙ s.value;
      events_offset = t.value;
    }
  where
    m : List ℕ
    m = sets f 24 (bytes_of 4 n)

    s : Stored f m 24 n
    s = sets_stored f 24 n (omega arith) ln

    t : Stored m (sets m 28 (bytes_of 4 o)) 28 o
    t = sets_stored m 28 o (omega (arith, s.size)) lo

-- g is f with one entry more, before which k stand
record Grown (f g : List ℕ) (k : ℕ) : Type 0 where
  size : length g ≡ length f + past_width
  before : (j : ℕ) → ((x : ℕ) → x < 8 → j ≢ 24 + x) → j < offset_of f 2 + past_width * k → byte_at g j ≡ byte_at f j
  after : (j : ℕ) → byte_at g (offset_of f 2 + past_width * k + (past_width + j)) ≡ byte_at f (offset_of f 2 + past_width * k + j)
  past_length : length_of g 2 ≡ length_of f 2 + past_width
  events_offset : offset_of g 3 ≡ offset_of f 3 + past_width

module _ (f : List ℕ) (L : FollowOn f) (k : ℕ) (e : List ℕ) (lk : past_width * k ≤ length_of f 2) (size : length e ≡ past_width)
    (short : length f + past_width ≤ longest_file) where
  entry_grown : Grown f (header_moved (longer_past f) (later_events f) (entry_put k e f)) k
  unfolding entry_place longer_past later_events
  entry_grown =
      let n = put_length k e f (omega arith) in
      let m : Moved (entry_put k e f) (header_moved (longer_past f) (later_events f) (entry_put k e f)) (longer_past f) (later_events f) =
      header_moved_holds (entry_put k e f) (longer_past f) (later_events f) (omega arith) (omega arith) (omega arith) in
      record {
        size = omega (arith, m.size);
        before = λ j a b. m.other j a ∙ put_before k e f (omega arith) j b;
        after = λ j. m.other (offset_of f 2 + past_width * k + (past_width + j)) (omega arith)
            ∙ ap (λ (x : ℕ). byte_at (entry_put k e f) (offset_of f 2 + past_width * k + (x + j))) (sym size)
            ∙ put_after k e f (omega arith) j;
        past_length = omega (arith, m.past_length);
        events_offset = omega (arith, m.events_offset);
      }

-- ---- the file with one entry more

module _ (f g : List ℕ) (L : FollowOn f) (k : ℕ) (lk : past_width * k ≤ length_of f 2) (z : Grown f g k) where
  offset_same : (i : ℕ) → i < 3 → offset_of g i ≡ offset_of f i
  unfolding offset_of
  offset_same i l = value_same 4 g f (4 + 8 * i) (4 + 8 * i) (λ j lj. z.before (4 + 8 * i + j) (omega arith) (omega arith))

  length_same : (i : ℕ) → i ≢ 2 → i < 4 → length_of g i ≡ length_of f i
  unfolding length_of
  length_same i n l = value_same 4 g f (8 + 8 * i) (8 + 8 * i) (λ j lj. z.before (8 + 8 * i + j) (omega arith) (omega arith))

  follow : FollowOn g
  follow =
      let o0 = offset_same 0 (omega arith) in
      let o1 = offset_same 1 (omega arith) in
      let o2 = offset_same 2 (omega arith) in
      let o3 = z.events_offset in
      let n0 = length_same 0 (omega arith) (omega arith) in
      let n1 = length_same 1 (omega arith) (omega arith) in
      let n2 = z.past_length in
      let n3 = length_same 3 (omega arith) (omega arith) in
      let n = z.size in
      record { units = omega arith; references = omega arith; past = omega arith; events = omega arith; end = omega arith }

  -- a byte from the place on, and where it stands now
  shifted : (x j i : ℕ) → j ≡ offset_of f 2 + past_width * k + (past_width + x) → i ≡ offset_of f 2 + past_width * k + x → byte_at g j ≡ byte_at f i
  shifted x j i p q = rw (p, q) (z.after x)

  -- stretches within both files
  within : (o q n : ℕ) → o + n ≤ length f → q + n ≤ length g → length (take n (drop o f)) ≡ length (take n (drop q g))
  within o q n l b = stretch_length f o n l ∙ sym (stretch_length g q n b)

  -- the units and the references
  front : (i : ℕ) → i < 2 → header_width ≤ offset_of f i → offset_of f i + length_of f i ≤ offset_of f 2 → section_of f i ≡ section_of g i
  unfolding section_of
  front i l a b =
      stretch_same f g (offset_of f i) (offset_of f i) (length_of f i)
      (within (offset_of f i) (offset_of f i) (length_of f i) (omega arith) (omega (arith, z.size)))
      (λ j lj. sym (z.before (offset_of f i + j) (omega arith) (omega arith)))
      ∙ ap₂ (λ (o n : ℕ). take n (drop o g)) (sym (offset_same i (omega arith))) (sym (length_same i (omega arith) (omega arith)))

  -- the events
  back : section_of f 3 ≡ section_of g 3
  unfolding section_of
  back =
      stretch_same f g (offset_of f 3) (offset_of f 3 + past_width) (length_of f 3)
      (within (offset_of f 3) (offset_of f 3 + past_width) (length_of f 3) (omega arith) (omega (arith, z.size)))
      (λ j lj. sym (shifted (offset_of f 3 - (offset_of f 2 + past_width * k) + j) (offset_of f 3 + past_width + j) (offset_of f 3 + j) (omega arith) (omega arith)))
      ∙ ap₂ (λ (o n : ℕ). take n (drop o g)) (sym z.events_offset) (sym (length_same 3 (omega arith) (omega arith)))

  past_size : length (section_of f 2) ≡ length_of f 2
  unfolding section_of
  past_size = stretch_length f (offset_of f 2) (length_of f 2) (omega arith)

  past_size' : length (section_of g 2) ≡ length_of f 2 + past_width
  unfolding section_of
  past_size' = stretch_length g (offset_of g 2) (length_of g 2) (omega (arith, follow)) ∙ z.past_length

  past_byte : (j : ℕ) → j < length_of f 2 → byte_at (section_of f 2) j ≡ byte_at f (offset_of f 2 + j)
  unfolding section_of
  past_byte j l = stretch_byte f (offset_of f 2) (length_of f 2) j l

  past_byte' : (j : ℕ) → j < length_of f 2 + past_width → byte_at (section_of g 2) j ≡ byte_at g (offset_of f 2 + j)
  unfolding section_of
  past_byte' j l =
      stretch_byte g (offset_of g 2) (length_of g 2) j (omega (arith, z.past_length))
      ∙ ap (λ (o : ℕ). byte_at g (o + j)) (offset_same 2 (omega arith))

  -- an entry that kept its bytes
  entry_same : (x y : ℕ) → past_width * x + past_width ≤ length_of f 2 → past_width * y + past_width ≤ length_of f 2 + past_width
      → ((j : ℕ) → j < past_width → byte_at f (offset_of f 2 + (past_width * x + j)) ≡ byte_at g (offset_of f 2 + (past_width * y + j)))
      → record_at past_width (section_of f 2) x ≡ record_at past_width (section_of g 2) y
  unfolding record_at
  entry_same x y lx ly h =
      let n = past_size in
      let n' = past_size' in
      stretch_same (section_of f 2) (section_of g 2) (past_width * x) (past_width * y) past_width
      (stretch_length (section_of f 2) (past_width * x) past_width (omega arith)
      ∙ sym (stretch_length (section_of g 2) (past_width * y) past_width (omega arith)))
      (λ j lj. past_byte (past_width * x + j) (omega arith) ∙ h j lj ∙ sym (past_byte' (past_width * y + j) (omega arith)))

  entry_before : (j : ℕ) → j < k → record_at past_width (section_of f 2) j ≡ record_at past_width (section_of g 2) j
  entry_before j l =
      entry_same j j (omega arith) (omega arith)
      (λ i li. sym (z.before (offset_of f 2 + (past_width * j + i)) (omega arith) (omega arith)))

  entry_after : (j : ℕ) → past_width * (k + j) + past_width ≤ length_of f 2
      → record_at past_width (section_of f 2) (k + j) ≡ record_at past_width (section_of g 2) (k + (1 + j))
  entry_after j l =
      entry_same (k + j) (k + (1 + j)) (omega arith) (omega arith)
      (λ i li. sym (shifted (past_width * j + i) _ _ (omega arith) (omega arith)))

  more_entries : MoreEntries (past_in (section_of f 2)) (past_in (section_of g 2))
  unfolding past_in
  more_entries =
      let n = past_size in
      let n' = past_size' in
      let m : ℕ = length_of f 2 / past_width - k in
      let c : (past_in (section_of f 2)).count ≡ k + m = omega arith in
      let c' : (past_in (section_of g 2)).count ≡ k + (1 + m) = omega arith in
      record {
        more = λ t. rw (c, c')
            (count_insert k m (λ j. t (violation_in (record_at past_width (section_of f 2) j)))
            (λ j. t (violation_in (record_at past_width (section_of g 2) j)))
            (λ j l. ap (λ (r : List ℕ). t (violation_in r)) (entry_before j l))
            (λ j l. ap (λ (r : List ℕ). t (violation_in r)) (entry_after j (omega arith))));
      }

  worse : format_in g ≡ format_in f → Worse (decode f) (decode g)
  unfolding decode case_in
  worse kept =
      rw kept
      (record {
        units = ap (units_in (format_in f)) (front 0 (omega arith) (omega arith) (omega arith));
        references = ap (references_in (format_in f)) (front 1 (omega arith) (omega arith) (omega arith));
        events = ap (events_in (format_in f)) back;
        past = more_entries;
        amounts = subst (λ (s : List ℕ). WorseAmounts (events_in (format_in f) (section_of f 3)) (amounts_in (format_in f) (section_of f 3)) (amounts_in (format_in f) s)) back
            (amounts_refl (events_in (format_in f) (section_of f 3)) (amounts_in (format_in f) (section_of f 3)));
      })

in_range : (f : List ℕ) (k : ℕ) (e : List ℕ) → FollowOn f → OneMoreEntry (decode f) k e → past_width * k ≤ length_of f 2
unfolding decode case_in past_in section_of
in_range f k e L c =
    let n : length (section_of f 2) ≡ length_of f 2 = stretch_length f (offset_of f 2) (length_of f 2) (omega arith) in
    let p : k ≤ (past_in (section_of f 2)).count = c.place in
    omega arith

module _ (f : List ℕ) (L : FollowOn f) (k : ℕ) (e : List ℕ) (c : OneMoreEntry (decode f) k e) (short : length f + past_width ≤ longest_file) where
  pub entry_follow : FollowOn (apply (entry k e) f)
  unfolding apply
  entry_follow = follow f _ L k (in_range f k e L c) (entry_grown f L k e (in_range f k e L c) c.size short)

  pub entry_worse : Worse (decode f) (decode (apply (entry k e) f))
  unfolding apply
  entry_worse =
      worse f _ L k (in_range f k e L c) (entry_grown f L k e (in_range f k e L c) c.size short) (format_kept (entry k e) f L)
