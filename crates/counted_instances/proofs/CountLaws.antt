-- The lists have as many bits as N3 and N2 count beside the event itself.
use Prim.Native.Nat.{ℕ, zero, suc, ◌+◌, ◌-◌, ◌*◌, ◌/◌, ◌%◌, ◌≤◌, ◌<◌}
use mathlib.Core.Bool.{Bool, true, false, cond, ◌&&◌}
use mathlib.Core.List.{List}
use mathlib.Core.Path.{◌≡◌, refl, sym, ap, ap₂, ◌∙◌}
use native.Mathlib.Omega.{arith}
use lib.Dec.{ltb, eqb}
use lib.ListN.{length, get_or, drop}
use borrow.Author.Tests.{ltb-true, eqb-true, eqb-false, lt-ltb, le-ltb}
use Rattle.binary.specs.Bounded.{count_to, bit_of}
use Rattle.binary.proofs.BoundedLaws.{count_same, count_split}
use Rattle.binary.proofs.MaskLaws.{bit_mask}
use Rattle.binary.proofs.ListLaws.{fill_at}
use Rattle.casefile.specs.Layout.{most_past, most_events}
use Rattle.casefile.specs.Case.{Case}
use Rattle.casefile.specs.Decode.{decode}
use Rattle.limits.specs.Refusal.{refusal, most_rows}
use Rattle.limits.proofs.AcceptedLaws as case
use Rattle.sanctions.specs.Penalties.{is_instance, counts_here, counts_past, instances, n3, n2}
use Rattle.counted_instances.specs.CountedInstances.{counted_here, counted_past, byte_of, event_list_bytes, past_list_bytes, list_bytes, counted_length, counted_byte, with_counted, instances_answer, instances_out, bit_in, bits_from, CountsAgree}

-- bit j % 8 of byte j / 8
bit_byte : (p : ℕ → Bool) (j : ℕ) → bit_of (byte_of p (j / 8)) (j % 8) ≡ p j
unfolding byte_of
bit_byte p j = bit_mask 8 (j % 8) (λ (t : ℕ). p (8 * (j / 8) + t)) (omega arith) ∙ ap p (omega arith)

count_nothing : (n : ℕ) → count_to n (λ (j : ℕ). false) ≡ 0
unfolding count_to
count_nothing zero = refl
count_nothing (suc n) = rw (count_nothing n)

none_counted : (n : ℕ) (p : ℕ → Bool) → ((j : ℕ) → j < n → p j ≡ false) → count_to n p ≡ 0
none_counted n p e = count_same n p (λ (j : ℕ). false) e ∙ count_nothing n

-- a count up to m, of what counts nothing from n on
count_below : (n m : ℕ) (p q : ℕ → Bool) → n ≤ m → ((j : ℕ) → j < n → p j ≡ q j) → ((j : ℕ) → n ≤ j → p j ≡ false) → count_to m p ≡ count_to n q
count_below n m p q l same past =
    let e : n + (m - n) ≡ m = omega arith in
    ap (λ (x : ℕ). count_to x p) (sym e) ∙ count_split n (m - n) p
    ∙ ap₂ ◌+◌ (count_same n p q same) (none_counted (m - n) (λ (t : ℕ). p (n + t)) (λ t k. past (n + t) (omega arith)))
    ∙ omega arith

-- ---- the bits of the lists

module _ (c : Case) (i : ℕ) (old : List ℕ) where
  byte_of_is : (b : ℕ) → b < counted_length → get_or (with_counted c i old) b 0 ≡ counted_byte c i b
  unfolding with_counted
  byte_of_is b l = fill_at (counted_byte c i) counted_length b 0 (drop counted_length old) l

  -- a list of so many bytes from start on
  list_bits : (start bytes n : ℕ) (p : ℕ → Bool) → start + bytes ≤ counted_length → n ≤ 8 * bytes
      → ((x : ℕ) → x < bytes → counted_byte c i (start + x) ≡ byte_of p x) → count_to n (bit_in (with_counted c i old) start) ≡ count_to n p
  list_bits start bytes n p l m is =
      count_same n _ p
      (λ j q.
      let x : j / 8 < bytes = omega arith in
      ap (λ (b : ℕ). bit_of b (j % 8)) (byte_of_is (start + j / 8) (omega arith) ∙ is (j / 8) x) ∙ bit_byte p j)

  events_3 : (x : ℕ) → x < event_list_bytes → counted_byte c i (0 + x) ≡ byte_of (counted_here c 2 i) x
  unfolding counted_byte
  events_3 x l = let e : 0 + x ≡ x = omega arith in rw (e, lt-ltb x event_list_bytes l)

  past_3 : (x : ℕ) → x < past_list_bytes → counted_byte c i (0 + event_list_bytes + x) ≡ byte_of (counted_past c 2 i) x
  unfolding counted_byte
  past_3 x l =
      rw (le-ltb (0 + event_list_bytes + x) event_list_bytes (omega arith), lt-ltb (0 + event_list_bytes + x) list_bytes (omega arith))
      (ap (byte_of (counted_past c 2 i)) (omega arith))

  events_2 : (x : ℕ) → x < event_list_bytes → counted_byte c i (list_bytes + x) ≡ byte_of (counted_here c 1 i) x
  unfolding counted_byte
  events_2 x l =
      rw (
        le-ltb (list_bytes + x) event_list_bytes (omega arith),
        le-ltb (list_bytes + x) list_bytes (omega arith),
        lt-ltb (list_bytes + x) (list_bytes + event_list_bytes) (omega arith),
      )
      (ap (byte_of (counted_here c 1 i)) (omega arith))

  past_2 : (x : ℕ) → x < past_list_bytes → counted_byte c i (list_bytes + event_list_bytes + x) ≡ byte_of (counted_past c 1 i) x
  unfolding counted_byte
  past_2 x l =
      rw (
        le-ltb (list_bytes + event_list_bytes + x) event_list_bytes (omega arith),
        le-ltb (list_bytes + event_list_bytes + x) list_bytes (omega arith),
        le-ltb (list_bytes + event_list_bytes + x) (list_bytes + event_list_bytes) (omega arith),
      )
      (ap (byte_of (counted_past c 1 i)) (omega arith))

  -- ---- what they count

  here_count : (k : ℕ) → i ≤ most_events → count_to most_events (counted_here c k i) ≡ cond (is_instance c i) (count_to i (counts_here c k i)) 0
  unfolding counted_here
  here_count k l = go (is_instance c i)
    where
      go : (b : Bool) → count_to most_events (λ j. b && (ltb j i && counts_here c k i j)) ≡ cond b (count_to i (counts_here c k i)) 0
      go true = count_below i most_events _ _ l (λ j m. rw (lt-ltb j i m)) (λ j m. rw (le-ltb j i m))
      go false = count_nothing most_events

  past_count : (k : ℕ) → c.past.count ≤ most_past
      → count_to most_past (counted_past c k i) ≡ cond (is_instance c i) (count_to c.past.count (λ j. counts_past c k i (c.past.entry j))) 0
  unfolding counted_past
  past_count k l = go (is_instance c i)
    where
      go : (b : Bool) → count_to most_past (λ j. b && (ltb j c.past.count && counts_past c k i (c.past.entry j)))
          ≡ cond b (count_to c.past.count (λ j. counts_past c k i (c.past.entry j))) 0
      go true = count_below c.past.count most_past _ _ l (λ j m. rw (lt-ltb j c.past.count m)) (λ j m. rw (le-ltb j c.past.count m))
      go false = count_nothing most_past

  one_less : (k : ℕ) → i ≤ most_events → c.past.count ≤ most_past
      → count_to most_events (counted_here c k i) + count_to most_past (counted_past c k i) ≡ cond (is_instance c i) (instances c k i) 0 - 1
  unfolding instances
  one_less k l m = ap₂ ◌+◌ (here_count k l) (past_count k m) ∙ go (is_instance c i) _ _
    where
      go : (b : Bool) (x y : ℕ) → cond b x 0 + cond b y 0 ≡ cond b (1 + x + y) 0 - 1
      go true x y = omega arith
      go false x y = refl

  pub counts_written : i ≤ most_events → c.past.count ≤ most_past
      → (bits_from (with_counted c i old) 0 ≡ n3 c i - 1) × (bits_from (with_counted c i old) list_bytes ≡ n2 c i - 1)
  unfolding n3 n2
  counts_written l m = (
    ap₂ ◌+◌ (list_bits 0 event_list_bytes most_events _ (omega arith) (omega arith) events_3) (list_bits (0 + event_list_bytes) past_list_bytes most_past _ (omega arith) (omega arith) past_3)
        ∙ one_less 2 l m,
    ap₂ ◌+◌ (list_bits list_bytes event_list_bytes most_events _ (omega arith) (omega arith) events_2) (list_bits (list_bytes + event_list_bytes) past_list_bytes most_past _ (omega arith) (omega arith) past_2)
        ∙ one_less 1 l m,
  )

-- ---- of every list that is written

pub counts_agree : CountsAgree
unfolding instances_answer instances_out
counts_agree f k i out e = go (eqb (refusal f k (most_rows f)) 0) refl (ltb i (decode f).events.count) refl (ltb (length out) counted_length) e
  where
    number : (a b s : Bool) → ℕ
    number a b s = cond a (cond b (cond s 15 0) 10) (refusal f k (most_rows f))

    after : (a b s : Bool) → List ℕ
    after a b s = cond (eqb (number a b s) 0) (with_counted (decode f) i out) out

    go : (a : Bool) → eqb (refusal f k (most_rows f)) 0 ≡ a → (b : Bool) → ltb i (decode f).events.count ≡ b → (s : Bool) → number a b s ≡ 0
        → (bits_from (after a b s) 0 ≡ n3 (decode f) i - 1) × (bits_from (after a b s) list_bytes ≡ n2 (decode f) i - 1)
    go true q true t false z =
        let h = eqb-true _ 0 q in
        counts_written (decode f) i out (omega (arith, ltb-true i (decode f).events.count t, case.events_count f k (most_rows f) h)) (case.past_count f k (most_rows f) h)
    go true q true t true z = absurd (omega arith)
    go true q false t s z = absurd (omega arith)
    go false q b t s z = absurd (eqb-false (refusal f k (most_rows f)) 0 q z)
