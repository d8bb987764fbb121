-- What the search for a unit or a reference leans on, records in order (limits 6 to 8), and what it finds.
use Rattle.std.specs.Prelude.{ℕ, ◌≤◌, ◌<◌, Bool, cond, ◌&&◌, List, ◌≡◌, eqb, Option, Some, None}
use Rattle.casefile.specs.declared.layout.Format.{Format}
use Rattle.casefile.specs.Case.{Units, References, Events}
use Rattle.casefile.specs.Layout.{reference_width}
use Rattle.casefile.specs.Decode.{record_at, units_in, references_in, reference_spare_fine}
use Rattle.casefile.specs.Lookup.{is_listed, place_of, has_reference, level_of, reads_correct, reference_key}
use Rattle.limits.specs.Refusal.{rises, reference_fields_fine}

-- keys strictly rise below n
abbrev pub Rising : (key : ℕ → ℕ) (n : ℕ) → Type 0
Rising key n = (i j : ℕ) → i < j → j < n → key i < key j

-- the units of a section stand in the order of their numbers (limit 6)
abbrev pub UnitsInOrder : Format → (units : List ℕ) → Type 0
UnitsInOrder format s = Rising (units_in format s).number (units_in format s).count

-- the references of a section stand in their order (limits 7 and 8)
abbrev pub InOrder : Format → (references : List ℕ) → Type 0
InOrder format s = Rising (reference_key (references_in format s)) (references_in format s).count

-- every key before lo is below the target, and none from hi on is
pub record Between (key : ℕ → ℕ) (n target lo hi : ℕ) : Type 0 where
  pub order : lo ≤ hi
  pub end : hi ≤ n
  pub before : (j : ℕ) → j < lo → key j < target
  pub after : (j : ℕ) → hi ≤ j → j < n → target ≤ key j

-- what the search for a unit's number finds: its place, where it is listed
unfoldable pub place_in : Units → (number : ℕ) → Option ℕ
place_in u number = cond (is_listed u number) (Some (place_of u number)) None

abbrev pub IsPlace : Units → (number : ℕ) → Option ℕ → Type 0
IsPlace u number p = p ≡ place_in u number

-- what the search for a reference finds: its level, where it is there
unfoldable pub level_in : References → (unit component : ℕ) → Option ℕ
level_in r unit component = cond (has_reference r unit component) (Some (level_of r unit component)) None

-- event i is a bid on a component that reads c
unfoldable pub reads_level : Events → ℕ → Bool
reads_level e i = eqb (e.kind i) 4 && reads_correct (e.component i)

-- c where it is read; no figure depends on it elsewhere
unfoldable pub correct_level : (correct : References) → Events → ℕ → ℕ
correct_level correct e i = cond (reads_level e i) (level_of correct (e.unit i) (e.component i)) 0

-- reference i, where it is known whether its unit is listed
unfoldable pub reference_fine_where : Format → (references : List ℕ) → ℕ → (listed : Bool) → Bool
reference_fine_where format s i listed =
    reference_fields_fine ((references_in format s).component i) ((references_in format s).value i)
    && reference_spare_fine (record_at (reference_width format) s i)
    && listed
    && rises (reference_key (references_in format s)) i
