-- No change writes the version: the file that a change leaves is read in the format of the file before it.
use Prim.Native.Nat.{ℕ, ◌+◌, ◌<◌}
use mathlib.Core.List.{List}
use mathlib.Core.Path.{◌≡◌, ◌∙◌, ap}
use native.Mathlib.Omega.{arith}
use lib.ListN.{take, length-take, get_or-append}
use lib.Seq.{get_or-take}
use Rattle.binary.specs.Bytes.{byte_at}
use Rattle.binary.proofs.ByteLaws.{value_same, stored_other}
use Rattle.casefile.specs.Decode.{format_in, FollowOn}
use Rattle.worse_conduct.specs.Changes.{Change, cell, entry, cell_place, cell_written, entry_place, entry_put, header_moved, apply}

-- the version is the first two bytes
version_kept : (f g : List ℕ) → ((j : ℕ) → j < 2 → byte_at g j ≡ byte_at f j) → format_in g ≡ format_in f
unfolding format_in
version_kept f g h = ap (λ (v : ℕ). record { version = v }) (value_same 2 g f 0 0 (λ j l. h (0 + j) (omega arith)))

-- a cell stands behind the header
cell_bytes_is : (i h w : ℕ) (f : List ℕ) → FollowOn f → (j : ℕ) → j < 2 → byte_at (cell_written i h w f) j ≡ byte_at f j
unfolding cell_written cell_place
cell_bytes_is i h w f L j l = stored_other 4 w f (cell_place f i h) j (omega arith)

-- an entry too, and the header's fields that move are pairs
put_bytes : (k : ℕ) (e f : List ℕ) → FollowOn f → (j : ℕ) → j < 2 → byte_at (entry_put k e f) j ≡ byte_at f j
unfolding entry_put entry_place
put_bytes k e f L j l =
    get_or-append (take (entry_place f k) f) _ 0 j (omega (arith, length-take (entry_place f k) f))
    ∙ get_or-take (entry_place f k) f j 0 (omega arith)

moved_bytes : (n o : ℕ) (f : List ℕ) (j : ℕ) → j < 2 → byte_at (header_moved n o f) j ≡ byte_at f j
unfolding header_moved
moved_bytes n o f j l = stored_other 4 o _ 28 j (omega arith) ∙ stored_other 4 n f 24 j (omega arith)

pub format_kept : (x : Change) (f : List ℕ) → FollowOn f → format_in (apply x f) ≡ format_in f
unfolding apply
format_kept (cell i h w) f L = version_kept f (cell_written i h w f) (cell_bytes_is i h w f L)
format_kept (entry k e) f L =
    version_kept f (header_moved _ _ (entry_put k e f)) (λ j l. moved_bytes _ _ (entry_put k e f) j l ∙ put_bytes k e f L j l)
