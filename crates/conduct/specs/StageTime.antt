-- The time totals of a unit, day and market, found from the neighbours of an event.
use Rattle.std.specs.Prelude.{ℕ, ◌-◌, ◌<◌, Bool, cond, ◌&&◌, List, [], ◌≡◌, ltb, eqb, get_or}
use Rattle.binary.specs.Bounded.{sum_to}
use Rattle.tariff.specs.ConductTests.{increase}
use Rattle.casefile.specs.declared.layout.Format.{Format}
use Rattle.casefile.specs.Layout.{most_hours}
use Rattle.casefile.specs.Case.{Events, Case}
use Rattle.casefile.specs.Decode.{amounts_in, case_in}
use Rattle.limits.specs.Refusal.{event_key}
use Rattle.limits.specs.StageLookup.{Rising}
use Rattle.conduct.specs.Flags.{time_bid}
use Rattle.conduct.specs.StageMasks.{SmallRow}
use Rattle.conduct.specs.StageFlags.{total_read}

-- a bid alone has a component (limit 10), and the events stand in their order (limit 11)
pub record BidsInOrder (e : Events) : Type 0 where
  pub bid : (i : ℕ) → i < e.count → 0 < e.component i → e.kind i ≡ 4
  pub rise : Rising (event_key e) e.count

-- event j is a time bid of event i's unit, day and market, on this component
unfoldable pub component_bid : Case → (i component j : ℕ) → Bool
component_bid c i component j = time_bid c i j && eqb (c.events.component j) component

-- the increase of event j in hour h, where it counts
unfoldable pub counted_increase : (a : ℕ → ℕ → ℕ) → (level j : ℕ) → Bool → (h : ℕ) → ℕ
counted_increase a level j counts h = cond counts (increase level (a j h)) 0

-- the increases on this component, of event i's unit, day and market, among the first m events, added
unfoldable pub component_increase : Format → (events levels : List ℕ) → (i component m h : ℕ) → ℕ
component_increase format e levels i component m h =
    sum_to m (λ j. counted_increase (amounts_in format e) (get_or levels j 0) j (component_bid (case_in format [] [] [] e) i component j) h)

-- a table of three time components by twenty-four hours
abbrev pub cell : List (List ℕ) → (k h : ℕ) → ℕ
cell t k h = get_or (get_or t k []) h 0

pub record HasIncreases (figure : ℕ → ℕ → ℕ) (t : List (List ℕ)) : Type 0 where
  pub each : (k h : ℕ) → k < 3 → h < most_hours → cell t k h ≡ figure k h

abbrev pub SmallTable : List (List ℕ) → Type 0
SmallTable t = (k : ℕ) → k < 3 → SmallRow (get_or t k [])

-- event i and the event before it are time bids of one unit, day and market
unfoldable pub same_totals : Case → ℕ → Bool
same_totals c i = ltb 0 i && time_bid c i i && time_bid c i (i - 1)

-- what the test of the event before read
unfoldable pub total_before : Case → (levels : List ℕ) → (i h : ℕ) → ℕ
total_before c levels i h = cond (eqb i 0) 0 (total_read c levels (i - 1) h)
