-- What the penalties of a case are found from: a case that was accepted, and the tables of earlier stages.
use Rattle.std.specs.Prelude.{ℕ, ◌≤◌, ◌<◌, max, true, List, ◌≡◌, get_or}
use Rattle.binary.specs.Lists.{Holds}
use Rattle.calendar.specs.Months.{calendar_days}
use Rattle.tariff.specs.Ranges.{highest_capability, highest_energy}
use Rattle.casefile.specs.declared.layout.Format.{Format}
use Rattle.casefile.specs.Layout.{most_hours, most_past, most_events}
use Rattle.casefile.specs.Case.{Case}
use Rattle.casefile.specs.Decode.{cells_from, units_in, past_in, events_in}
use Rattle.casefile.specs.Lookup.{group_of}
use Rattle.casefile.specs.StageRead.{cell_of}
use Rattle.limits.specs.Refusal.{units_fine, events_fine, days_fine, order_fine, events_listed, amounts_fine}
use Rattle.party_runs.specs.StageParties.{same_run, RunsTogether, leader_of}
use Rattle.conduct.specs.Flags.{flag_mask}

-- the limits that penalties lean on: 5, 6, 10, 18 and 11 to 13
pub record Accepted (format : Format) (units past events : List ℕ) : Type 0 where
  pub few_past : (past_in past).count ≤ most_past
  pub few_events : (events_in format events).count ≤ most_events
  pub units_fine_holds : units_fine format units ≡ true
  pub events_fine_holds : events_fine format events ≡ true
  pub days_fine_holds : days_fine (past_in past) (events_in format events) ≡ true
  pub order_fine_holds : order_fine (events_in format events) ≡ true
  pub events_listed_holds : events_listed (units_in format units) (events_in format events) ≡ true
  pub amounts_fine_holds : amounts_fine format (units_in format units) events ≡ true

-- of each of the first n events its group, the first event of its party, and its flag mask
pub record FoundMasks (c : Case) (n : ℕ) (groups leaders masks : List ℕ) : Type 0 where
  pub group_held : Holds n groups (group_of c)
  pub leader_held : Holds n leaders (leader_of c)
  pub mask_held : Holds n masks (flag_mask c)

-- no a of kinds 1 and 3 is above this
abbrev pub highest_amount : ℕ
highest_amount = max highest_capability highest_energy

-- nor any a of these cells
abbrev pub SmallAmounts : (cells : List ℕ) → Type 0
SmallAmounts cells = (h : ℕ) → h < most_hours → (cell_of cells h).a ≤ highest_amount

-- the amounts of kinds 1 and 3 are small; the days of kind 3 are the calendar's; the events of a run stand together; a leader is of its event's run, and not after it
pub record Sound (format : Format) (events leaders : List ℕ) : Type 0 where
  pub withheld : (j : ℕ) → j < (events_in format events).count → (events_in format events).kind j ≡ 1 → SmallAmounts (cells_from format events j)
  pub fuel : (j : ℕ) → j < (events_in format events).count → (events_in format events).kind j ≡ 3 → SmallAmounts (cells_from format events j)
  pub days : (j : ℕ) → j < (events_in format events).count → (events_in format events).kind j ≡ 3 → (events_in format events).day j < calendar_days
  pub runs : RunsTogether (events_in format events)
  pub led : (j : ℕ) → j < (events_in format events).count → same_run (events_in format events) (get_or leaders j 0) j ≡ true
  pub before : (j : ℕ) → j < (events_in format events).count → get_or leaders j 0 ≤ j

-- no penalty is above this, in cents
abbrev pub highest_penalty : ℕ
highest_penalty = 1000000000000000
