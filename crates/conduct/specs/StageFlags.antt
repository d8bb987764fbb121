-- What a stage reads in the tables of the stages before it, and adds to its own. The laws say that these are the figures of the case.
use Rattle.std.specs.Prelude.{ℕ, ◌-◌, ◌^◌, ◌+◌, ◌≤◌, ◌<◌, Bool, true, false, cond, ◌&&◌, List, [], ◌≡◌, ltb, leb, eqb, length, get_or}
use Rattle.binary.specs.Bounded.{sum_to, mask_to, bit_of}
use Rattle.binary.specs.Lists.{Holds}
use Rattle.tariff.specs.ConductTests.{increase, bid_test}
use Rattle.casefile.specs.declared.layout.Format.{Format}
use Rattle.casefile.specs.Layout.{most_hours, most_events, longest_file}
use Rattle.casefile.specs.Case.{Units, Events, Case}
use Rattle.casefile.specs.Decode.{cells_from, units_in, events_in, case_in}
use Rattle.casefile.specs.Lookup.{unit_of}
use Rattle.limits.specs.Refusal.{events_listed}
use Rattle.party_runs.specs.StageParties.{leader_of, RunEnd}
use Rattle.conduct.specs.Flags.{tight, sum_together, time_bid, group_capability, withheld_flag, dispatch_flag, fuel_flag}
use Rattle.conduct.specs.StageMasks.{test_of, tight_hours, fails_at}

-- ---- rows of sums

-- no element is within 2 ^ 32 of the end of 64 bits
abbrev pub Small : List ℕ → Type 0
Small l = (k : ℕ) → get_or l k 0 ≤ 2 ^ 64 - 2 ^ 32

-- a figure where it counts, else 0
unfoldable pub counted : Bool → (figure : ℕ → ℕ) → ℕ → ℕ
counted b figure h = cond b (figure h) 0

-- f 0, .. , f (m - 1) were added to the first m elements
pub record Added (m : ℕ) (old new : List ℕ) (f : ℕ → ℕ) : Type 0 where
  pub each : (k : ℕ) → get_or new k 0 ≡ get_or old k 0 + cond (ltb k m) (f k) 0

-- twenty-four figures, in a row of their own
pub record HasRow (figure : ℕ → ℕ) (row : List ℕ) : Type 0 where
  pub each : (h : ℕ) → h < most_hours → get_or row h 0 ≡ figure h

-- what event j adds to its party's sum in hour h: a, or for kind 3, where P is united, 1 where its bit is set
unfoldable pub party_figure : Case → (j h : ℕ) → ℕ
party_figure c j h = cond (eqb (c.events.kind j) 3) (cond (bit_of (c.events.P j) h) 1 0) (c.a j h)

-- the sum over the first m events whose leader, read in the table, is l
unfoldable pub led_sum : Case → (leaders : List ℕ) → (m l h : ℕ) → ℕ
led_sum c leaders m l h = sum_to m (λ j. cond (eqb (get_or leaders j 0) l) (party_figure c j h) 0)

-- the figures of the events together with event i, added
unfoldable pub party_sum : Case → (i h : ℕ) → ℕ
party_sum c i h = sum_together c i (λ j. party_figure c j h)

-- the events that event i leads stand from i on, before the end
abbrev pub PartyWithin : (leaders : List ℕ) → (n i end : ℕ) → Type 0
PartyWithin leaders n i end = (j : ℕ) → j < n → get_or leaders j 0 ≡ i → (i ≤ j) × (j < end)

-- the capability of unit u where it is of this group
unfoldable pub capability_share : Units → (group u : ℕ) → ℕ
capability_share units group u = cond (eqb (units.group u) group) (units.capability u) 0

unfoldable pub capability_of : Units → (group : ℕ) → ℕ
capability_of units group = sum_to units.count (capability_share units group)

-- G of a withheld event; the other kinds read none
unfoldable pub listed_capability : Case → ℕ → ℕ
listed_capability c i = cond (eqb (c.events.kind i) 1) (group_capability c i) 0

-- ---- flags, with the figures that are at hand

-- the flags of a case, its reference levels read in the table
unfoldable pub time_total_in : Case → (levels : List ℕ) → (i h : ℕ) → ℕ
time_total_in c levels i h = sum_to c.events.count (λ j. cond (time_bid c i j) (increase (get_or levels j 0) (c.a j h)) 0)

-- the same where the component's test reads it, else 0
unfoldable pub total_read : Case → (levels : List ℕ) → (i h : ℕ) → ℕ
total_read c levels i h =
    cond (leb 4 (c.events.component i) && leb (c.events.component i) 6) (time_total_in c levels i h) 0

unfoldable pub bid_flag_in : Case → (levels : List ℕ) → (i h : ℕ) → Bool
bid_flag_in c levels i h =
    bid_test (c.events.component i) (get_or levels i 0) (c.a i h) (c.events.market i) (tight c i h)
    (c.units.average_price (unit_of c i)) (c.units.constrained_hours (unit_of c i)) (time_total_in c levels i h)

unfoldable pub flagged_in : Case → (levels : List ℕ) → (i h : ℕ) → Bool
flagged_in c levels i h =
    cond (eqb (c.events.kind i) 1) (withheld_flag c i h)
    (cond (eqb (c.events.kind i) 2) (dispatch_flag c i h)
    (cond (eqb (c.events.kind i) 3) (fuel_flag c i h)
    (cond (eqb (c.events.kind i) 4) (bid_flag_in c levels i h) false)))

unfoldable pub flag_mask_in : Case → (levels : List ℕ) → ℕ → ℕ
flag_mask_in c levels i = mask_to (c.events.hours i) (flagged_in c levels i)

-- the flagged hours of event i from what is at hand: its unit's place, its reference level, G and the sums that its test reads
unfoldable pub mask_in : Format → (units events : List ℕ) → (place level G : ℕ) → (sums : List ℕ) → ℕ → ℕ
mask_in format units events place level G sums i =
    mask_to most_hours
    (fails_at (test_of (units_in format units) (events_in format events) place level G i) (tight_hours (units_in format units) (events_in format events) place i) (cells_from format events i) sums)

-- ---- what the flags are found from

-- the place of each event's unit and the leader of its party
pub record Led (format : Format) (units events places leaders : List ℕ) : Type 0 where
  pub few : (events_in format events).count ≤ most_events
  pub short : length units ≤ longest_file
  pub listed : events_listed (units_in format units) (events_in format events) ≡ true
  pub placed : Holds (events_in format events).count places (unit_of (case_in format units [] [] events))
  pub led : Holds (events_in format events).count leaders (leader_of (case_in format units [] [] events))

-- the run of event i ends there, where that is not passed
abbrev pub EndCarried : Events → (i end : ℕ) → Type 0
EndCarried e i end = i < end → RunEnd e i end

-- ---- the masks that are found

-- the flagged hours of event j of a party: a fuel event has the first's
unfoldable pub member_mask : Format → (units events : List ℕ) → (place first G : ℕ) → (sums : List ℕ) → ℕ → ℕ
member_mask format units events place first G sums j = cond (eqb ((events_in format events).kind j) 3) first (mask_in format units events place 0 G sums j)

-- the flagged hours of event i where it is a bid, from the totals that it reads; else none
unfoldable pub bid_mask : Format → (units events : List ℕ) → (place level : ℕ) → (totals : List ℕ) → ℕ → ℕ
bid_mask format units events place level totals i =
    cond (eqb ((events_in format events).kind i) 4) (mask_in format units events place level 0 totals i) 0

-- the members of event i's party before m have their flagged hours, and the other events what they had
pub record PartyFlagged (format : Format) (units events leaders : List ℕ) (i m : ℕ) (old new : List ℕ) : Type 0 where
  pub members : (k : ℕ) → k < m → get_or leaders k 0 ≡ i → get_or new k 0 ≡ flag_mask_in (case_in format units [] [] events) [] k
  pub others : (k : ℕ) → (get_or leaders k 0 ≡ i → ⊥) → get_or new k 0 ≡ get_or old k 0

-- the events that event i leads have their flagged hours, a bid those given, and the other events what they had
pub record LeaderFlagged (format : Format) (units events leaders : List ℕ) (bid i : ℕ) (old new : List ℕ) : Type 0 where
  pub bids : get_or leaders i 0 ≡ i → (events_in format events).kind i ≡ 4 → get_or new i 0 ≡ bid
  pub members : (k : ℕ) → k < (events_in format events).count → ((events_in format events).kind i ≡ 4 → ⊥) → get_or leaders k 0 ≡ i
      → get_or new k 0 ≡ flag_mask_in (case_in format units [] [] events) [] k
  pub others : (k : ℕ) → (get_or leaders k 0 ≡ i → ⊥) → get_or new k 0 ≡ get_or old k 0

-- the events whose leader is before m have their flagged hours
pub record Flagged (format : Format) (units events leaders levels : List ℕ) (m : ℕ) (masks : List ℕ) : Type 0 where
  pub each : (k : ℕ) → k < (events_in format events).count → get_or leaders k 0 < m
      → get_or masks k 0 ≡ flag_mask_in (case_in format units [] [] events) levels k
