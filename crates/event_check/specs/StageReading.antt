-- What the check reads of hour cells, and what the reader of events answers.
use Rattle.std.specs.Prelude.{ℕ, ◌+◌, ◌*◌, ◌^◌, Bool, true, false, cond, List, leb, Option, Some, None, Result, Ok, Err}
use Rattle.casefile.specs.declared.layout.Format.{Format}
use Rattle.casefile.specs.Decode.{events_in, amounts_in}
use Rattle.casefile.specs.declared.events.Event.{Event}
use Rattle.casefile.specs.StageRead.{cell_of, event_at}
use Rattle.limits.specs.Refusal.{cell_fine, event_fine, events_fine, order_fine, unless}
use Rattle.limits.specs.Numbers.{refusal_number}
use Rattle.limits.specs.StageRefusal.{events_in_calendar}
use Rattle.limits.specs.declared.refusal.Refusal.{Refusal}
use Rattle.limits.specs.declared.refusal.Refusal.TheVariants.{EventFields}
use Rattle.event_check.specs.declared.event_limits.EventOrder.{EventOrder}

unfoldable pub cell_fine_at : (kind component : ℕ) → (cells : List ℕ) → ℕ → Bool
cell_fine_at kind component cells h = cell_fine kind component (cell_of cells h).a (cell_of cells h).b (cell_of cells h).m

unfoldable pub amount_within : (capability : ℕ) → (cells : List ℕ) → ℕ → Bool
amount_within capability cells h = leb (cell_of cells h).a capability

-- the place of a record of the code in the order of limit 11
unfoldable pub key_of : Event → ℕ
key_of e = 2 ^ 44 * e.day + 2 ^ 36 * e.kind + 2 ^ 28 * e.market + 2 ^ 8 * e.unit + e.component

-- the refusal's number of an answer
unfoldable pub number_of : Option Event → ℕ
number_of (Some e) = 0
number_of None = 10

-- the fields where the test passes
unfoldable pub read_if : Bool → Event → Option Event
read_if true e = Some e
read_if false e = None

-- the reader's answer: the fields of event i, where all of them and all its cells are in their ranges
unfoldable pub read_event : Format → (events : List ℕ) → ℕ → Option Event
read_event format s i = read_if (event_fine (events_in format s) (amounts_in format s) i) (event_at (events_in format s) i)

-- what one look at each event finds: 10, or what 18 and 19 and then 11 ask
unfoldable pub order_of : Format → (events : List ℕ) → Result EventOrder Refusal
order_of format s =
    cond (events_fine format s) (Ok (record { dated = events_in_calendar (events_in format s); rising = order_fine (events_in format s) })) (Err EventFields)

-- the number of the first of limits 10, 19 and 11 that the events break, of themselves alone
abbrev pub order_number : Result EventOrder Refusal → ℕ
order_number (Ok o) = unless o.dated 19 (unless o.rising 11 0)
order_number (Err r) = refusal_number r
