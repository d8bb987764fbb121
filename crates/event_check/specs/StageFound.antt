-- What the check finds of each event: its unit's place, r and c, over the sections of the file.
use Rattle.std.specs.Prelude.{ℕ, cond, List, Option, Some, None, ◌≡◌}
use Rattle.binary.specs.Lists.{Holds}
use Rattle.casefile.specs.declared.layout.Format.{Format}
use Rattle.casefile.specs.Case.{Units, References, Events}
use Rattle.casefile.specs.Decode.{units_in, references_in, events_in}
use Rattle.casefile.specs.Lookup.{place_of, bid_level}
use Rattle.limits.specs.StageLookup.{correct_level}
use Rattle.limits.specs.Refusal.{reference_found}
use Rattle.event_check.specs.declared.event_limits.Levels.{Levels}

-- the place of event i's unit among these units
unfoldable pub event_place : Units → Events → ℕ → ℕ
event_place u e i = place_of u (e.unit i)

pub record Found (format : Format) (units references correct events places levels corrects : List ℕ) : Type 0 where
  pub placed : Holds (events_in format events).count places (event_place (units_in format units) (events_in format events))
  pub levelled : Holds (events_in format events).count levels (bid_level (references_in format references) (events_in format events))
  pub corrected : Holds (events_in format events).count corrects (correct_level (references_in format correct) (events_in format events))

-- of event i: r and c, where the references that it reads are there
unfoldable pub levels_of : (own correct : References) → Events → ℕ → Option Levels
levels_of own correct e i = cond (reference_found own correct e i) (Some (record { level = bid_level own e i; correct = correct_level correct e i })) None

abbrev pub EventLevels : (own correct : References) → Events → ℕ → Option Levels → Type 0
EventLevels own correct e i l = l ≡ levels_of own correct e i
