-- The fields of a row, stored one after the other, are the whole row.
use Prim.Native.Nat.{ℕ, suc, ◌+◌, ◌*◌}
use mathlib.Core.List.{List, [], ◌∷◌, ◌++◌, append-nil}
use mathlib.Core.Path.{◌≡◌, sym, ap, ◌∙◌}
use native.Mathlib.Nat.{add-zero, add-suc, suc-add}
use native.Mathlib.Omega.{arith}
use lib.ListN.{length, get_or, set, length-append, drop_of_length-le}
use lib.Seq.{sets, sets-eq}
use Rattle.binary.specs.Bytes.{bytes_of}
use Rattle.binary.specs.Lists.{join_to}
use Rattle.binary.proofs.ByteLaws.{bytes_length}
use Rattle.binary.proofs.ListLaws.{join_more, join_length}
use Rattle.casefile.specs.Layout.{bids_offset, most_hours}
use Rattle.case_rows.specs.StageRow.{word_of, words_of, written_row}
use Rattle.case_rows.specs.declared.rows.Row.{Row}

-- a run of stores after another
pub sets_append : (vs ws l : List ℕ) (i : ℕ) → sets (sets l i vs) (i + length vs) ws ≡ sets l i (vs ++ ws)
sets_append [] ws l i = rw add-zero
sets_append (a ∷ vs) ws l i = rw (add-suc, ← suc-add) (sets_append vs ws (set l i a) (suc i))

-- a run of stores over the whole list
sets_whole : (vs l : List ℕ) → length vs ≡ length l → sets l 0 vs ≡ vs
sets_whole vs l e =
    sets-eq vs l 0 (omega (arith, e))
    ∙ ap (λ (r : List ℕ). vs ++ r) (drop_of_length-le l {i = 0 + length vs} (omega (arith, e)))
    ∙ append-nil vs

word_length : (bids : List ℕ) (h : ℕ) → length (word_of bids h) ≡ 4
unfolding word_of
word_length bids h = bytes_length 4 (get_or bids h 0)

-- one bid more
pub words_more : (l bids : List ℕ) (h : ℕ)
    → sets (sets l bids_offset (join_to h (word_of bids))) (bids_offset + 4 * h) (word_of bids h) ≡ sets l bids_offset (join_to (h + 1) (word_of bids))
words_more l bids h = rw (← join_length 4 (word_of bids) (word_length bids) h, sets_append, join_more)

words_length : (bids : List ℕ) → length (words_of bids) ≡ 4 * most_hours
unfolding words_of
words_length bids = join_length 4 (word_of bids) (word_length bids) most_hours

pub row_bytes_length : (r : Row) → length (written_row r) ≡ bids_offset + 4 * most_hours
unfolding written_row
row_bytes_length r = simp (length-append, bytes_length, words_length)

-- the row after each of the ten stores
pub row_stored : (r : Row) (l0 l1 l2 l3 l4 l5 l6 l7 l8 l9 l10 : List ℕ) → length l0 ≡ bids_offset + 4 * most_hours
    → l1 ≡ sets l0 0 (bytes_of 4 r.flags) → l2 ≡ sets l1 4 (bytes_of 4 r.mitigated)
    → l3 ≡ sets l2 8 (bytes_of 8 r.penalty) → l4 ≡ sets l3 16 (bytes_of 8 r.make_up)
    → l5 ≡ sets l4 24 (bytes_of 1 r.multiplier) → l6 ≡ sets l5 25 (bytes_of 1 0)
    → l7 ≡ sets l6 26 (bytes_of 2 r.n3) → l8 ≡ sets l7 28 (bytes_of 2 r.n2)
    → l9 ≡ sets l8 30 (bytes_of 2 0) → l10 ≡ sets l9 bids_offset (words_of r.bids) → l10 ≡ written_row r
unfolding written_row
row_stored r l0 l1 l2 l3 l4 l5 l6 l7 l8 l9 l10 n e1 e2 e3 e4 e5 e6 e7 e8 e9 e10 =
    let f9 = join 30 2 0 l8 l9 l10 (words_of r.bids) e9 e10 in
    let f8 = join 28 2 r.n2 l7 l8 l10 _ e8 f9 in
    let f7 = join 26 2 r.n3 l6 l7 l10 _ e7 f8 in
    let f6 = join 25 1 0 l5 l6 l10 _ e6 f7 in
    let f5 = join 24 1 r.multiplier l4 l5 l10 _ e5 f6 in
    let f4 = join 16 8 r.make_up l3 l4 l10 _ e4 f5 in
    let f3 = join 8 8 r.penalty l2 l3 l10 _ e3 f4 in
    let f2 = join 4 4 r.mitigated l1 l2 l10 _ e2 f3 in
    let f1 = join 0 4 r.flags l0 l1 l10 _ e1 f2 in
    f1 ∙ sets_whole (written_row r) l0 (row_bytes_length r ∙ sym n)
  where
    join : (i w v : ℕ) (l m k ws : List ℕ) → m ≡ sets l i (bytes_of w v) → k ≡ sets m (i + w) ws → k ≡ sets l i (bytes_of w v ++ ws)
    join i w v l m k ws e f =
        f ∙ ap (λ (x : List ℕ). sets x (i + w) ws) e
        ∙ ap (λ (n : ℕ). sets (sets l i (bytes_of w v)) (i + n) ws) (sym (bytes_length w v))
        ∙ sets_append (bytes_of w v) ws l i
