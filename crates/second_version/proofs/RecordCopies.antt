-- The copy of a section's records: read by version 2 they are what the records are by version 1.
use Prim.Native.Nat.{ℕ, ◌+◌, ◌-◌, ◌*◌, ◌/◌, ◌≤◌, ◌<◌}
use mathlib.Core.Bool.{Bool, true, false, cond, ◌||◌}
use mathlib.Core.List.{List, []}
use mathlib.Core.Path.{◌≡◌, refl, sym, ◌∙◌}
use native.Mathlib.Nat.{add-sub_cancel_left, mul-div_right, mul-le-mul_left}
use native.Mathlib.Omega.{arith}
use lib.Dec.{ltb, eqb}
use lib.ListN.{length, take, drop, length-take, length-drop, get_or-eq_default}
use borrow.Author.Tests.{ltb-true, ltb-false, lt-ltb, le-ltb, ne_eqb}
use Rattle.binary.specs.Bytes.{byte_at, value_at, u32_at}
use Rattle.binary.proofs.ByteLaws.{value_add, value_same, stretch_byte}
use Rattle.binary.proofs.ListLaws.{list_length, list_at, join_length, join_at}
use Rattle.casefile.specs.declared.layout.Format.{Format}
use Rattle.casefile.specs.Layout.{first_version, second_version, first_widths, second_widths, widths_of}
use Rattle.casefile.specs.Decode.{record_at, units_in, references_in, events_in, cells_from, cells_in, amounts_in}
use Rattle.second_version.specs.SecondVersion.{copy_byte, copy_record, copy_records, copy_units, copy_references, copy_events}

-- the two formats
abbrev pub first : Format
first = record { version = first_version }

abbrev pub second : Format
second = record { version = second_version }

-- ---- a record's bytes

-- past a list's end
past_end : (s : List ℕ) (j : ℕ) → length s ≤ j → byte_at s j ≡ 0
past_end s j l = get_or-eq_default s 0 {n = j} l

none_value : value_at 2 [] 0 ≡ 0
unfolding value_at
none_value = refl

module _ (w at : ℕ) (within : at + 2 ≤ w) (s : List ℕ) (whole : length s ≡ w * (length s / w)) where
  record_length : (i : ℕ) → length (copy_record w at s i) ≡ w + 4
  unfolding copy_record
  record_length i = list_length (copy_byte w at (record_at w s i)) (w + 4)

  pub copy_length : length (copy_records w at s) ≡ (w + 4) * (length s / w)
  unfolding copy_records
  copy_length = join_length (w + 4) (copy_record w at s) record_length (length s / w)

  -- a record that is not there reads 0
  none : (v i j : ℕ) (l : List ℕ) → length l ≡ v * (length s / w) → length s / w ≤ i → byte_at (record_at v l i) j ≡ 0
  unfolding record_at
  none v i j l e h =
      past_end (take v (drop (v * i) l)) j
      (let a = length-take v (drop (v * i) l) in let b = length-drop (v * i) l in let m = mul-le-mul_left v h in omega arith)

  byte_none : (r : List ℕ) (j : ℕ) → ((k : ℕ) → byte_at r k ≡ 0) → copy_byte w at r j ≡ 0
  unfolding copy_byte
  byte_none r j e = rw (e j, e (at + (j - w))) (go (ltb j w) (eqb j at || eqb j (at + 1)) (ltb j (w + 2)))
    where
      go : (a b c : Bool) → ◌≡◌ {A = ℕ} (cond a (cond b 0 0) (cond c 0 0)) 0
      go true true c = refl
      go true false c = refl
      go false b true = refl
      go false b false = refl

  there : (i j : ℕ) → i < length s / w → j < w + 4
      → byte_at (record_at (w + 4) (copy_records w at s) i) j ≡ copy_byte w at (record_at w s i) j
  unfolding record_at copy_records copy_record
  there i j h l =
      stretch_byte (copy_records w at s) ((w + 4) * i) (w + 4) j l
      ∙ join_at (w + 4) (copy_record w at s) record_length (length s / w) i j h l
      ∙ list_at (copy_byte w at (record_at w s i)) (w + 4) j 0 l

  copy_byte_is : (i j : ℕ) → j < w + 4 → byte_at (record_at (w + 4) (copy_records w at s) i) j ≡ copy_byte w at (record_at w s i) j
  copy_byte_is i j l = go (ltb i (length s / w)) refl
    where
      go : (b : Bool) → ltb i (length s / w) ≡ b → byte_at (record_at (w + 4) (copy_records w at s) i) j ≡ copy_byte w at (record_at w s i) j
      go true e = there i j (ltb-true i (length s / w) e) l
      go false e =
          let h = ltb-false i (length s / w) e in
          none (w + 4) i j (copy_records w at s) copy_length h
          ∙ sym (byte_none (record_at w s i) j (λ k. none w i k s whole h))

  -- a byte that is not of the number
  kept : (r : List ℕ) (j : ℕ) → j < w → (j ≡ at → ⊥) → (j ≡ at + 1 → ⊥) → copy_byte w at r j ≡ byte_at r j
  unfolding copy_byte
  kept r j l a b = rw (lt-ltb j w l, ne_eqb j at a, ne_eqb j (at + 1) b)

  moved : (r : List ℕ) (k : ℕ) → k < 2 → copy_byte w at r (w + k) ≡ byte_at r (at + k)
  unfolding copy_byte
  moved r k l = rw (le-ltb (w + k) w (omega arith), lt-ltb (w + k) (w + 2) (omega arith), add-sub_cancel_left)

  cleared : (r : List ℕ) (k : ℕ) → copy_byte w at r (w + 2 + k) ≡ 0
  unfolding copy_byte
  cleared r k = rw (le-ltb (w + 2 + k) w (omega arith), le-ltb (w + 2 + k) (w + 2) (omega arith))

  byte_same : (i j : ℕ) → j < w → (j ≡ at → ⊥) → (j ≡ at + 1 → ⊥)
      → byte_at (record_at (w + 4) (copy_records w at s) i) j ≡ byte_at (record_at w s i) j
  byte_same i j l a b = copy_byte_is i j (omega arith) ∙ kept (record_at w s i) j l a b

  value_after : (v i p : ℕ) → at + 2 ≤ p → p + v ≤ w
      → value_at v (record_at (w + 4) (copy_records w at s) i) p ≡ value_at v (record_at w s i) p
  value_after v i p l m =
      value_same v (record_at (w + 4) (copy_records w at s) i) (record_at w s i) p p
      (λ k h. byte_same i (p + k) (omega arith) (λ e. omega arith) (λ e. omega arith))

  -- the number
  number_same : (i : ℕ) → value_at 4 (record_at (w + 4) (copy_records w at s) i) w ≡ value_at 2 (record_at w s i) at
  number_same i =
      let low : value_at 2 c w ≡ value_at 2 r at =
      value_same 2 c r w at (λ k h. copy_byte_is i (w + k) (omega arith) ∙ moved r k h) in
      let high : value_at 2 c (w + 2) ≡ value_at 2 [] 0 =
      value_same 2 c [] (w + 2) 0 (λ k h. copy_byte_is i (w + 2 + k) (omega arith) ∙ cleared r k) in
      let all = value_add 2 2 c w in
      let z = none_value in
      omega arith
    where
      c : List ℕ
      c = record_at (w + 4) (copy_records w at s) i

      r : List ℕ
      r = record_at w s i

  count_same : 0 < w → length (copy_records w at s) / (w + 4) ≡ length s / w
  count_same h = rw copy_length (mul-div_right (length s / w) (omega arith))

-- ---- the records of a section

-- units
module _ (s : List ℕ) (whole : length s ≡ 24 * (length s / 24)) where
  pub units_same : units_in second (copy_units s) ≡ units_in first s
  unfolding copy_units units_in widths_of first_widths second_widths
  units_same = λ k.
      record {
        count = count_same 24 0 (omega arith) s whole (omega arith) k;
        number = λ i. number_same 24 0 (omega arith) s whole i k;
        group = λ i. value_after 24 0 (omega arith) s whole 2 i 2 (omega arith) (omega arith) k;
        area = λ i. byte_same 24 0 (omega arith) s whole i 4 (omega arith) (λ e. omega arith) (λ e. omega arith) k;
        capability = λ i. value_after 24 0 (omega arith) s whole 4 i 8 (omega arith) (omega arith) k;
        rate = λ i. value_after 24 0 (omega arith) s whole 4 i 12 (omega arith) (omega arith) k;
        average_price = λ i. value_after 24 0 (omega arith) s whole 4 i 16 (omega arith) (omega arith) k;
        constrained_hours = λ i. value_after 24 0 (omega arith) s whole 2 i 20 (omega arith) (omega arith) k;
      }

-- references, and a correction
module _ (s : List ℕ) (whole : length s ≡ 8 * (length s / 8)) where
  pub references_same : references_in second (copy_references s) ≡ references_in first s
  unfolding copy_references references_in widths_of first_widths second_widths
  references_same = λ k.
      record {
        count = count_same 8 0 (omega arith) s whole (omega arith) k;
        unit = λ i. number_same 8 0 (omega arith) s whole i k;
        component = λ i. byte_same 8 0 (omega arith) s whole i 2 (omega arith) (λ e. omega arith) (λ e. omega arith) k;
        value = λ i. value_after 8 0 (omega arith) s whole 4 i 4 (omega arith) (omega arith) k;
      }

-- events
module _ (s : List ℕ) (whole : length s ≡ 312 * (length s / 312)) where
  abbrev c : ℕ → List ℕ
  c i = record_at 316 (copy_records 312 2 s) i

  cell_byte : (i j : ℕ) → byte_at (take 288 (drop 24 (c i))) j ≡ byte_at (take 288 (drop 24 (record_at 312 s i))) j
  cell_byte i j = go (ltb j 288) refl
    where
      go : (b : Bool) → ltb j 288 ≡ b → byte_at (take 288 (drop 24 (c i))) j ≡ byte_at (take 288 (drop 24 (record_at 312 s i))) j
      go true e =
          let l = ltb-true j 288 e in
          stretch_byte (c i) 24 288 j l
          ∙ byte_same 312 2 (omega arith) s whole i (24 + j) (omega arith) (λ q. omega arith) (λ q. omega arith)
          ∙ sym (stretch_byte (record_at 312 s i) 24 288 j l)
      go false e =
          let l = ltb-false j 288 e in
          past_end (take 288 (drop 24 (c i))) j (let a = length-take 288 (drop 24 (c i)) in omega arith)
          ∙ sym (past_end (take 288 (drop 24 (record_at 312 s i))) j (let a = length-take 288 (drop 24 (record_at 312 s i)) in omega arith))

  cell_value : (i p : ℕ) → u32_at (cells_in second (copy_records 312 2 s) i) p ≡ u32_at (cells_in first s i) p
  unfolding cells_in cells_from widths_of first_widths second_widths
  cell_value i p = value_same 4 (take 288 (drop 24 (c i))) (take 288 (drop 24 (record_at 312 s i))) p p (λ k l. cell_byte i (p + k))

  pub amounts_same : amounts_in second (copy_events s) ≡ amounts_in first s
  unfolding copy_events amounts_in first_widths
  amounts_same = λ k i h. cell_value i (12 * h) k

  pub events_same : events_in second (copy_events s) ≡ events_in first s
  unfolding copy_events events_in widths_of first_widths second_widths
  events_same = λ k.
      record {
        count = count_same 312 2 (omega arith) s whole (omega arith) k;
        kind = λ i. byte_same 312 2 (omega arith) s whole i 0 (omega arith) (λ e. omega arith) (λ e. omega arith) k;
        market = λ i. byte_same 312 2 (omega arith) s whole i 1 (omega arith) (λ e. omega arith) (λ e. omega arith) k;
        unit = λ i. number_same 312 2 (omega arith) s whole i k;
        period = λ i. value_after 312 2 (omega arith) s whole 2 i 4 (omega arith) (omega arith) k;
        component = λ i. byte_same 312 2 (omega arith) s whole i 6 (omega arith) (λ e. omega arith) (λ e. omega arith) k;
        impact = λ i. byte_same 312 2 (omega arith) s whole i 7 (omega arith) (λ e. omega arith) (λ e. omega arith) k;
        day = λ i. value_after 312 2 (omega arith) s whole 4 i 8 (omega arith) (omega arith) k;
        hours = λ i. 24;
        P = λ i. value_after 312 2 (omega arith) s whole 4 i 12 (omega arith) (omega arith) k;
        Q = λ i. value_after 312 2 (omega arith) s whole 4 i 16 (omega arith) (omega arith) k;
        R = λ i. value_after 312 2 (omega arith) s whole 4 i 20 (omega arith) (omega arith) k;
        b = λ i h. cell_value i (12 * h + 4) k;
        m = λ i h. cell_value i (12 * h + 8) k;
      }
