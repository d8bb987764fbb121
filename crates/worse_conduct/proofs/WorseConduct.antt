-- Demand 3, one theorem for every list of changes.
use Prim.Native.Nat.{ℕ, ◌+◌, ◌^◌, ◌≤◌, ◌<◌}
use mathlib.Core.List.{List, [], ◌∷◌}
use mathlib.Core.Path.{◌≡◌, refl, sym, ◌∙◌, ap, subst₂}
use native.Mathlib.Nat.{le_refl, le_trans, lt_of_lt_of_le}
use native.Mathlib.Omega.{arith}
use lib.ListN.{length, length-append, length-take, length-drop}
use lib.Pow.{pow_mono}
use lib.Seq.{length-sets}
use Rattle.binary.specs.Bounded.{bit_of}
use Rattle.binary.proofs.MaskLaws.{mask_lt}
use Rattle.casefile.specs.declared.layout.Format.{Format}
use Rattle.casefile.specs.Layout.{longest_file}
use Rattle.casefile.specs.Case.{References, Case}
use Rattle.casefile.specs.Decode.{format_in, FollowOn, decode}
use Rattle.casefile.specs.Lookup.{correct_in}
use Rattle.limits.specs.Refusal.{refusal}
use Rattle.conduct.specs.Flags.{flagged, flag_mask}
use Rattle.sanctions.proofs.PenaltyBounds.{Ranges, multiplier_bound, penalty_bound}
use Rattle.settlement.specs.Row.{rows_of}
use Rattle.settlement.specs.Settled.{accepted, settled}
use Rattle.settlement.proofs.RowLaws.{rows_flags, rows_multiplier, rows_penalty, settled_accepted}
use Rattle.worse_conduct.specs.Changes.{Change, cell, entry, cell_written, entry_put, header_moved, apply, apply_all, Takes, TakesAll}
use Rattle.worse_conduct.specs.Promise.{EnergyNotNegative, NoSmaller}
use Rattle.worse_conduct.proofs.WorseCase.{Worse, worse_refl, worse_trans, Figures, worse_figures}
use Rattle.worse_conduct.proofs.FormatKept.{format_kept}
use Rattle.worse_conduct.proofs.CellChange.{cell_follow, cell_worse}
use Rattle.worse_conduct.proofs.EntryChange.{entry_follow, entry_worse}
use Rattle.worse_conduct.proofs.AcceptedCase.{accepted_case}

-- ---- the list

-- no change makes the file shorter, and an entry makes it longer by its bytes
entry_length : (k : ℕ) (e f : List ℕ) → length (apply (entry k e) f) ≡ length f + length e
unfolding apply header_moved entry_put
entry_length k e f = rw (length-sets, length-sets) (simp (length-append, length-take, length-drop) (omega arith))

grows : (x : Change) (f : List ℕ) → length f ≤ length (apply x f)
unfolding apply cell_written
grows (cell i h w) f = rw length-sets (le_refl (length f))
grows (entry k e) f = omega (arith, entry_length k e f)

grows_all : (xs : List Change) (f : List ℕ) → length f ≤ length (apply_all xs f)
unfolding apply_all
grows_all [] f = le_refl _
grows_all (x ∷ xs) f = le_trans (grows x f) (grows_all xs (apply x f))

step_follow : (x : Change) (f : List ℕ) → FollowOn f → Takes f x → length (apply x f) ≤ longest_file → FollowOn (apply x f)
unfolding apply
step_follow (cell i h w) f L t b = cell_follow f L i h w t
step_follow (entry k e) f L t b = entry_follow f L k e t (omega (arith, entry_length k e f, t.size))

step_worse : (x : Change) (f : List ℕ) → FollowOn f → Takes f x → length (apply x f) ≤ longest_file
    → Worse (decode f) (decode (apply x f))
unfolding apply
step_worse (cell i h w) f L t b = cell_worse f L i h w t
step_worse (entry k e) f L t b = entry_worse f L k e t (omega (arith, entry_length k e f, t.size))

-- no file in between need be accepted: that the pairs follow on is carried along
list_worse : (xs : List Change) (f : List ℕ) → FollowOn f → TakesAll f xs → length (apply_all xs f) ≤ longest_file
    → Worse (decode f) (decode (apply_all xs f))
unfolding apply_all
list_worse [] f L t b = worse_refl (decode f)
list_worse (x ∷ xs) f L t b =
    let s = le_trans (grows_all xs (apply x f)) b in
    worse_trans (step_worse x f L t.0 s) (list_worse xs (apply x f) (step_follow x f L t.0 s) t.1 b)

-- no list of changes writes the version (FormatKept): every file on the way is read in the format of the first
all_kept : (xs : List Change) (f : List ℕ) → FollowOn f → TakesAll f xs → length (apply_all xs f) ≤ longest_file
    → format_in (apply_all xs f) ≡ format_in f
unfolding apply_all
all_kept [] f L t b = refl
all_kept (x ∷ xs) f L t b =
    let s = le_trans (grows_all xs (apply x f)) b in
    all_kept xs (apply x f) (step_follow x f L t.0 s) t.1 b ∙ format_kept x f L

-- ---- the rows

mask_fits : (c : Case) (r : Ranges c) (i : ℕ) → flag_mask c i < 2 ^ 32
unfolding flag_mask
mask_fits c r i =
    lt_of_lt_of_le (mask_lt (c.events.hours i) (flagged c i)) (pow_mono {j = 32} (le_trans (r.hours i) (omega arith)))

-- the rows that settling leaves in one format, from the figures of the two cases
rows_worse : (format : Format) (f f' k rows rows' : List ℕ) → Ranges (decode f) → Ranges (decode f') → Figures (decode f) (decode f')
    → NoSmaller format (record { answer = accepted f k; rows = rows_of format (decode f) (correct_in f k) rows })
    (record { answer = accepted f' k; rows = rows_of format (decode f') (correct_in f' k) rows' })
unfolding accepted
rows_worse format f f' k rows rows' r r' w =
    record {
      row_count = w.count;
      flags = λ i h l e.
          ap (λ (x : ℕ). bit_of x h) (rows_flags format c' q' rows' i (later i l) (mask_fits c' r' i))
          ∙ w.flags i h (ap (λ (x : ℕ). bit_of x h) (sym (rows_flags format c q rows i l (mask_fits c r i))) ∙ e);
      multipliers = λ i l.
          let x = multiplier_bound c i in
          let y = multiplier_bound c' i in
          let p = rows_multiplier format c q rows i l (omega arith) in
          let p' = rows_multiplier format c' q' rows' i (later i l) (omega arith) in
          let z = w.multipliers i l in
          omega arith;
      penalties = λ i l.
          let x = penalty_bound c r i l in
          let y = penalty_bound c' r' i (later i l) in
          let p = rows_penalty format c q rows i l (omega arith) in
          let p' = rows_penalty format c' q' rows' i (later i l) (omega arith) in
          let z = w.penalties i l in
          omega arith;
      total = omega (arith, w.total);
    }
  where
    c : Case
    c = decode f

    c' : Case
    c' = decode f'

    q : References
    q = correct_in f k

    q' : References
    q' = correct_in f' k

    later : (i : ℕ) → i < (decode f).events.count → i < (decode f').events.count
    later i l = let e = w.count in omega arith

-- demand 3 of the definitions: what two cases settle into
pub worse_conduct : (file correction rows worse_rows : List ℕ) (changes : List Change)
    → TakesAll file changes
    → refusal file correction (length rows) ≡ 0
    → refusal (apply_all changes file) correction (length worse_rows) ≡ 0
    → EnergyNotNegative (decode file)
    → NoSmaller (format_in file) (settled file correction rows) (settled (apply_all changes file) correction worse_rows)
worse_conduct file correction rows worse_rows changes takes before after energy =
    let p = accepted_case file correction (length rows) before in
    let p' = accepted_case (apply_all changes file) correction (length worse_rows) after in
    let w = list_worse changes file p.follow takes p'.short in
    let kept = all_kept changes file p.follow takes p'.short in
    subst₂ (NoSmaller (format_in file)) (sym (settled_accepted file correction rows before))
    (sym (settled_accepted (apply_all changes file) correction worse_rows after))
    (rw kept
    (rows_worse (format_in file) file (apply_all changes file) correction rows worse_rows p.ranges p'.ranges
    (worse_figures (decode file) (decode (apply_all changes file)) w energy)))
