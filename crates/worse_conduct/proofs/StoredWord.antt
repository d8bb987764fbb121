-- A list of bytes that differs from another in one word of four bytes, and what that leaves of its stretches and numbers.
use Prim.Native.Nat.{ℕ, ◌+◌, ◌^◌, ◌≤◌, ◌<◌}
use mathlib.Core.List.{List}
use mathlib.Core.Logic.{◌≢◌}
use mathlib.Core.Path.{◌≡◌, sym, ◌∙◌}
use native.Mathlib.Nat.{add_assoc}
use native.Mathlib.Decide.{dec_lt}
use native.Mathlib.Omega.{arith}
use lib.ListN.{length, take, drop, length-take, length-drop, get_or-eq_default}
use lib.Seq.{sets, length-sets}
use Rattle.binary.specs.Bytes.{byte_at, value_at, u32_at, bytes_of}
use Rattle.binary.proofs.ByteLaws.{value_same, stored_other, stored_read, stretch_byte, stretch_same}

-- g is f with v in the four bytes at p
pub record Stored (f g : List ℕ) (p v : ℕ) : Type 0 where
  pub size : length g ≡ length f
  pub other : (j : ℕ) → ((k : ℕ) → k < 4 → j ≢ p + k) → byte_at g j ≡ byte_at f j
  pub value : u32_at g p ≡ v

pub sets_stored : (f : List ℕ) (p v : ℕ) → p + 4 ≤ length f → v < 2 ^ 32 → Stored f (sets f p (bytes_of 4 v)) p v
sets_stored f p v l b =
    record {
      size = length-sets f p (bytes_of 4 v);
      other = λ j n. stored_other 4 v f p j n;
      value = stored_read 4 v f p l b;
    }

stretch_size : (f g : List ℕ) (o n : ℕ) → length g ≡ length f → length (take n (drop o g)) ≡ length (take n (drop o f))
stretch_size f g o n e = simp (length-take, length-drop, e)

module _ {f g : List ℕ} {p v : ℕ} (s : Stored f g p v) where
  pub value_apart : (n q : ℕ) → ((j k : ℕ) → j < n → k < 4 → q + j ≢ p + k) → value_at n g q ≡ value_at n f q
  value_apart n q a = value_same n g f q q (λ j lj. s.other (q + j) (λ k lk. a j k lj lk))

  pub stretch_apart : (o n : ℕ) → ((j k : ℕ) → j < n → k < 4 → o + j ≢ p + k) → take n (drop o g) ≡ take n (drop o f)
  stretch_apart o n a =
      stretch_same g f o o n (stretch_size f g o n s.size) (λ j lj. s.other (o + j) (λ k lk. a j k lj lk))

-- a stretch that holds the word
pub stretch_stored : (f g : List ℕ) (o n q v : ℕ) → Stored f g (o + q) v → q + 4 ≤ n → Stored (take n (drop o f)) (take n (drop o g)) q v
stretch_stored f g o n q v s l =
    record {
      size = stretch_size f g o n s.size;
      other = λ j a. byte j a (dec_lt j n);
      value = value_same 4 (take n (drop o g)) g q (o + q)
          (λ k lk. rw (add_assoc o q k) (stretch_byte g o n (q + k) (omega arith)))
          ∙ s.value;
    }
  where
    byte : (j : ℕ) → ((k : ℕ) → k < 4 → j ≢ q + k) → Dec (j < n) → byte_at (take n (drop o g)) j ≡ byte_at (take n (drop o f)) j
    byte j a (yes k) =
        stretch_byte g o n j k ∙ s.other (o + j) (λ x lx e. a x lx (omega arith)) ∙ sym (stretch_byte f o n j k)
    byte j a (no k) =
        let x = length-take n (drop o g) in
        let y = length-take n (drop o f) in
        get_or-eq_default (take n (drop o g)) 0 (omega arith) ∙ sym (get_or-eq_default (take n (drop o f)) 0 (omega arith))
