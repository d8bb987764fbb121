-- What stands in a row of the settled rows buffer: its flag mask, penalty and multiplier.
use Prim.Native.Nat.{ℕ, ◌+◌, ◌*◌, ◌^◌, ◌≤◌, ◌<◌}
use mathlib.Core.List.{List, ◌++◌}
use mathlib.Core.Path.{◌≡◌, refl, sym, ◌∙◌, subst}
use native.Mathlib.Nat.{add-zero, add_assoc, mul-suc, mul-le-mul_left}
use native.Mathlib.Omega.{arith}
use lib.ListN.{length, drop, length-append, get_or-append}
use borrow.Author.Tests.{eq-eqb}
use Rattle.binary.specs.Bytes.{byte_at, value_at, u32_at, u64_at, bytes_of}
use Rattle.binary.specs.Lists.{join_to}
use Rattle.binary.proofs.ByteLaws.{value_one, value_same, value_skip, bytes_length, bytes_read}
use Rattle.binary.proofs.ListLaws.{join_length, join_at}
use Rattle.casefile.specs.declared.layout.Format.{Format}
use Rattle.casefile.specs.Layout.{most_hours, row_width}
use Rattle.casefile.specs.Case.{References, Case}
use Rattle.casefile.specs.Decode.{format_in, decode}
use Rattle.casefile.specs.Lookup.{correct_in}
use Rattle.limits.specs.Refusal.{refusal}
use Rattle.conduct.specs.Flags.{flag_mask}
use Rattle.sanctions.specs.Penalties.{multiplier, penalty}
use Rattle.default_bids.specs.Mitigation.{mitigated_mask, bid_in_force, make_up_of}
use Rattle.settlement.specs.Row.{bid_bytes, row_of, rows_of}
use Rattle.settlement.specs.Settled.{accepted, answer_of, rows_after, settled}

-- byte j of stretch i, of stretches of m bytes
join_byte : (m n : ℕ) (f : ℕ → List ℕ) → ((i : ℕ) → length (f i) ≡ m) → (zs : List ℕ) (i j : ℕ) → i < n → j < m
    → byte_at (join_to n f ++ zs) (m * i + j) ≡ byte_at (f i) j
join_byte m n f h zs i j l lj =
    let r : m * i + m ≤ m * n = subst (λ (x : ℕ). x ≤ m * n) (mul-suc m i) (mul-le-mul_left m l) in
    get_or-append (join_to n f) zs 0 (m * i + j) (rw (join_length m f h n) (omega arith)) ∙ join_at m f h n i j l lj

module _ (format : Format) (c : Case) (k : References) where
  bids_length : (i : ℕ) → length (bid_bytes c k i) ≡ 4 * most_hours
  unfolding bid_bytes
  bids_length i = join_length 4 (λ h. bytes_of 4 (bid_in_force c k i h)) (λ h. bytes_length 4 (bid_in_force c k i h)) most_hours

  pub row_length : (i : ℕ) → length (row_of c k i) ≡ row_width format
  unfolding row_of
  row_length i = simp (length-append, bytes_length, bids_length i)

  row_flags : (i : ℕ) → flag_mask c i < 2 ^ 32 → u32_at (row_of c k i) 0 ≡ flag_mask c i
  unfolding row_of
  row_flags i h = bytes_read 4 (flag_mask c i) _ h

  row_penalty : (i : ℕ) → penalty c i < 2 ^ 64 → u64_at (row_of c k i) 8 ≡ penalty c i
  unfolding row_of
  row_penalty i h =
      value_skip 8 4 (bytes_of 4 (flag_mask c i)) _ 4 (bytes_length 4 (flag_mask c i))
      ∙ value_skip 8 4 (bytes_of 4 (mitigated_mask c i)) _ 0 (bytes_length 4 (mitigated_mask c i))
      ∙ bytes_read 8 (penalty c i) _ h

  row_multiplier : (i : ℕ) → multiplier c i < 256 → byte_at (row_of c k i) 24 ≡ multiplier c i
  unfolding row_of
  row_multiplier i h =
      sym (value_one (row_of c k i) 24)
      ∙ value_skip 1 4 (bytes_of 4 (flag_mask c i)) _ 20 (bytes_length 4 (flag_mask c i))
      ∙ value_skip 1 4 (bytes_of 4 (mitigated_mask c i)) _ 16 (bytes_length 4 (mitigated_mask c i))
      ∙ value_skip 1 8 (bytes_of 8 (penalty c i)) _ 8 (bytes_length 8 (penalty c i))
      ∙ value_skip 1 8 (bytes_of 8 (make_up_of c k i)) _ 0 (bytes_length 8 (make_up_of c k i))
      ∙ bytes_read 1 (multiplier c i) _ h

  module _ (rows : List ℕ) where
    rows_byte : (i p : ℕ) → i < c.events.count → p < row_width format → byte_at (rows_of format c k rows) (row_width format * i + p) ≡ byte_at (row_of c k i) p
    unfolding rows_of
    rows_byte i p l b = join_byte (row_width format) c.events.count (row_of c k) row_length (drop (row_width format * c.events.count) rows) i p l b

    rows_value : (w i p : ℕ) → i < c.events.count → p + w ≤ row_width format
        → value_at w (rows_of format c k rows) (row_width format * i + p) ≡ value_at w (row_of c k i) p
    rows_value w i p l b =
        value_same w (rows_of format c k rows) (row_of c k i) (row_width format * i + p) p
        λ j lj. rw (add_assoc (row_width format * i) p j) (rows_byte i (p + j) l (omega arith))

    pub rows_flags : (i : ℕ) → i < c.events.count → flag_mask c i < 2 ^ 32 → u32_at (rows_of format c k rows) (row_width format * i) ≡ flag_mask c i
    rows_flags i l h = rw (← add-zero (row_width format * i)) (rows_value 4 i 0 l (omega arith) ∙ row_flags i h)

    pub rows_penalty : (i : ℕ) → i < c.events.count → penalty c i < 2 ^ 64 → u64_at (rows_of format c k rows) (row_width format * i + 8) ≡ penalty c i
    rows_penalty i l h = rows_value 8 i 8 l (omega arith) ∙ row_penalty i h

    pub rows_multiplier : (i : ℕ) → i < c.events.count → multiplier c i < 256 → byte_at (rows_of format c k rows) (row_width format * i + 24) ≡ multiplier c i
    rows_multiplier i l h = rows_byte i 24 l (omega arith) ∙ row_multiplier i h

-- what settling an accepted case is
pub settled_accepted : (f k rows : List ℕ) → refusal f k (length rows) ≡ 0
    → settled f k rows ≡ record { answer = accepted f k; rows = rows_of (format_in f) (decode f) (correct_in f k) rows }
unfolding settled answer_of rows_after
settled_accepted f k rows e = rw (eq-eqb _ _ e) refl
