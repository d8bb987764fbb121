-- The changes of demand 3 (docs/RULES.md, W): their effect on the bytes of the file as it stands at that moment, and
-- which of them a file takes.
use Rattle.std.specs.Prelude.{ℕ, ◌+◌, ◌*◌, ◌^◌, ◌≤◌, ◌<◌, Bool, true, cond, ◌&&◌, ◌||◌, List, [], ◌∷◌, ◌++◌, ◌≡◌, ltb, leb, eqb, length, take, drop}
use Rattle.std.proofs.lemmas.List.Edits.{sets}
use Rattle.binary.specs.Bytes.{bytes_of}
use Rattle.binary.specs.Word.{positive_part, negative_part}
use Rattle.casefile.specs.Layout.{past_width, event_width}
use Rattle.casefile.specs.Case.{Case}
use Rattle.casefile.specs.Decode.{format_in, offset_of, length_of, cell_at, decode}

pub data Change : Type 0 where
  -- a of the event and the hour becomes the word
  cell : (event hour word : ℕ) → Change
  -- the bytes become a past entry, with that many entries before it
  entry : (place : ℕ) (bytes : List ℕ) → Change

-- ---- the effect of a change

-- where a of event i and hour h stands in the file
unfoldable pub cell_place : List ℕ → (i h : ℕ) → ℕ
cell_place f i h = offset_of f 3 + (event_width (format_in f) * i + cell_at h)

unfoldable pub cell_written : (i h w : ℕ) → List ℕ → List ℕ
cell_written i h w f = sets f (cell_place f i h) (bytes_of 4 w)

-- where past entry k begins in the file, or the past ends
unfoldable pub entry_place : List ℕ → (k : ℕ) → ℕ
entry_place f k = offset_of f 2 + past_width * k

-- the entry before, between or after the others
unfoldable pub entry_put : (k : ℕ) (e f : List ℕ) → List ℕ
entry_put k e f = take (entry_place f k) f ++ (e ++ drop (entry_place f k) f)

-- which adds 12 to the past length and the events offset
unfoldable pub longer_past : List ℕ → ℕ
longer_past f = length_of f 2 + past_width

unfoldable pub later_events : List ℕ → ℕ
later_events f = offset_of f 3 + past_width

-- a file with these two fields of the header
unfoldable pub header_moved : (past_length events_offset : ℕ) → List ℕ → List ℕ
header_moved n o f = sets (sets f (8 + 8 * 2) (bytes_of 4 n)) (4 + 8 * 3) (bytes_of 4 o)

unfoldable pub apply : Change → List ℕ → List ℕ
apply (cell i h w) f = cell_written i h w f
apply (entry k e) f = header_moved (longer_past f) (later_events f) (entry_put k e f)

-- each change gets the file that the last one left
unfoldable pub apply_all : List Change → List ℕ → List ℕ
apply_all [] f = f
apply_all (x ∷ xs) f = apply_all xs (apply x f)

-- ---- the changes that a file takes

-- kinds 1 and 2: a higher a, more MW withheld or undelivered
unfoldable pub more_withheld : (kind x w : ℕ) → Bool
more_withheld kind x w = leb 1 kind && leb kind 2 && ltb x w

-- of two bids, signed words, x is the lower
unfoldable pub lower_bid : (x y : ℕ) → Bool
lower_bid x y = ltb (positive_part 32 x + negative_part 32 y) (positive_part 32 y + negative_part 32 x)

-- a higher a, of component 8 a lower
unfoldable pub moved_bid : (component x w : ℕ) → Bool
moved_bid component x w = cond (eqb component 8) (lower_bid w x) (lower_bid x w)

-- kind 4: a bid moved further
unfoldable pub worse_bid : (kind component x w : ℕ) → Bool
worse_bid kind component x w = eqb kind 4 && moved_bid component x w

-- w against the x that stands there at that moment
unfoldable pub worse_amount : (kind component x w : ℕ) → Bool
worse_amount kind component x w = more_withheld kind x w || worse_bid kind component x w

pub record WorseCell (c : Case) (i h w : ℕ) : Type 0 where
  pub event : i < c.events.count
  pub hour : h < c.events.hours i
  pub word : w < 2 ^ 32
  pub worse : worse_amount (c.events.kind i) (c.events.component i) (c.a i h) w ≡ true

pub record OneMoreEntry (c : Case) (k : ℕ) (e : List ℕ) : Type 0 where
  pub place : k ≤ c.past.count
  pub size : length e ≡ past_width

abbrev pub Takes : List ℕ → Change → Type 0
Takes f (cell i h w) = WorseCell (decode f) i h w
Takes f (entry k e) = OneMoreEntry (decode f) k e

abbrev pub TakesAll : List ℕ → List Change → Type 0
TakesAll f [] = Unit {0}
TakesAll f (x ∷ xs) = Takes f x × TakesAll (apply x f) xs
