-- A unit found by its number, a reference by its unit and component, and events together. Numbers and references strictly rise
-- (limits 6 to 8), so that the last match is the only one.
use Rattle.std.specs.Prelude.{ℕ, ◌+◌, ◌*◌, ◌^◌, Bool, cond, ◌&&◌, ◌||◌, List, leb, eqb, length}
use Rattle.binary.specs.Bounded.{any_to, last_to}
use Rattle.casefile.specs.Case.{Units, References, Events, Case}
use Rattle.casefile.specs.Decode.{format_in, references_in, section_of}

-- unit j has this number
unfoldable pub is_unit : Units → (number j : ℕ) → Bool
is_unit u number j = eqb (u.number j) number

unfoldable pub is_listed : Units → (number : ℕ) → Bool
is_listed u number = any_to u.count (is_unit u number)

-- the place of the unit of this number
unfoldable pub place_of : Units → (number : ℕ) → ℕ
place_of u number = last_to u.count (is_unit u number)

-- the place of event i's unit, and its group
unfoldable pub unit_of : Case → ℕ → ℕ
unit_of c i = place_of c.units (c.events.unit i)

unfoldable pub group_of : Case → ℕ → ℕ
group_of c i = c.units.group (unit_of c i)

-- event j is of event i's kind, day, market and group (docs/RULES.md, K15); for kind 3 that is a party-day
unfoldable pub together : Case → (i j : ℕ) → Bool
together c i j =
    eqb (c.events.kind j) (c.events.kind i) && eqb (c.events.day j) (c.events.day i)
    && eqb (c.events.market j) (c.events.market i) && eqb (group_of c j) (group_of c i)

-- reference j is of this unit and component
unfoldable pub is_reference : References → (unit component j : ℕ) → Bool
is_reference r unit component j = eqb (r.unit j) unit && eqb (r.component j) component

unfoldable pub has_reference : References → (unit component : ℕ) → Bool
has_reference r unit component = any_to r.count (is_reference r unit component)

-- the reference level of a unit and component
unfoldable pub level_of : References → (unit component : ℕ) → ℕ
level_of r unit component = r.value (last_to r.count (is_reference r unit component))

-- the order of references: by unit, then component
unfoldable pub reference_key : References → ℕ → ℕ
reference_key r i = 2 ^ 8 * r.unit i + r.component i

-- the correction slice where it isn't empty, otherwise the case's own reference section (docs/RULES.md, D6)
unfoldable pub correct_references : (correction own : List ℕ) → List ℕ
correct_references correction own = cond (eqb (length correction) 0) own correction

-- components 0, 1 and 3 read c, and no others (docs/RULES.md, D5)
unfoldable pub reads_correct : (component : ℕ) → Bool
reads_correct component = leb component 1 || eqb component 3

-- the references that c is found in
unfoldable pub correct_in : (file correction : List ℕ) → References
correct_in f k = references_in (format_in f) (correct_references k (section_of f 1))

-- r of event i
unfoldable pub reference_of : Case → ℕ → ℕ
reference_of c i = level_of c.references (c.events.unit i) (c.events.component i)

-- the reference level of a bid; the other kinds have none
unfoldable pub bid_level : References → Events → ℕ → ℕ
bid_level r e i = cond (eqb (e.kind i) 4) (level_of r (e.unit i) (e.component i)) 0
