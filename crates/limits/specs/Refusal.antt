-- What a case can break (docs/RULES.md, L): the number of the first limit broken, or 0. Each test is of one number of the table.
use Rattle.std.specs.Prelude.{ℕ, ◌+◌, ◌-◌, ◌*◌, ◌/◌, ◌%◌, ◌^◌, Bool, true, false, cond, not, ◌&&◌, ◌||◌, List, [], ◌∷◌, ◌++◌, ◌≡◌, ltb, leb, eqb, length}
use Rattle.binary.specs.Bounded.{all_to}
use Rattle.binary.specs.Word.{within}
use Rattle.calendar.specs.Periods.{in_calendar, is_period}
use Rattle.tariff.specs.Ranges.{highest_area, lowest_capability, highest_capability, highest_rate, highest_average_price, most_constrained_hours, highest_component, reference_in_range, highest_market, highest_day, lowest_kind, highest_kind, highest_impact, highest_price, highest_revenue, highest_fuel_money, highest_energy, highest_price_change, most_run_hours, highest_megawatts, bid_in_range}
use Rattle.casefile.specs.declared.layout.Format.{Format}
use Rattle.casefile.specs.Layout.{first_version, second_version, section_count, header_width, longest_file, unit_width, reference_width, past_width, event_width, most_units, most_references, most_past, most_events, highest_number, first_widths, old_numbers, row_width}
use Rattle.casefile.specs.Case.{Units, References, Violation, Past, Events}
use Rattle.casefile.specs.Decode.{format_in, sections_in, offset_of, length_of, section_of, record_at, units_in, references_in, past_in, events_in, amounts_in, old_number, unit_spare_fine, reference_spare_fine, entry_spare_fine}
use Rattle.casefile.specs.Lookup.{is_listed, place_of, reference_key, has_reference, reads_correct, correct_references}

-- 1: the length
unfoldable pub length_fine : List ℕ → Bool
length_fine f = leb header_width (length f) && leb (length f) longest_file

-- 2 and 3: the version and the section count
unfoldable pub version_fine : List ℕ → Bool
version_fine f = eqb (format_in f).version first_version || eqb (format_in f).version second_version

unfoldable pub sections_fine : List ℕ → Bool
sections_fine f = eqb (sections_in f) section_count

-- 4: the pairs follow on
unfoldable pub pairs_fine : List ℕ → Bool
pairs_fine f =
    eqb (offset_of f 0) header_width
    && eqb (offset_of f 1) (offset_of f 0 + length_of f 0)
    && eqb (offset_of f 2) (offset_of f 1 + length_of f 1)
    && eqb (offset_of f 3) (offset_of f 2 + length_of f 2)
    && eqb (length f) (offset_of f 3 + length_of f 3)

-- 5: n bytes are records of that width, and not too many
unfoldable pub size_fine : (n width most : ℕ) → Bool
size_fine n width most = eqb (n % width) 0 && leb (n / width) most

unfoldable pub sizes_fine : List ℕ → Bool
sizes_fine f =
    size_fine (length_of f 0) (unit_width (format_in f)) most_units && size_fine (length_of f 1) (reference_width (format_in f)) most_references
    && size_fine (length_of f 2) past_width most_past && size_fine (length_of f 3) (event_width (format_in f)) most_events

-- 17, in version 2 alone: in each record a number's old field, the two bytes where version 1 has it, is 0, and the number is at most 999,999
unfoldable pub number_fine : (old number : ℕ → ℕ) → ℕ → Bool
number_fine old number i = eqb (old i) 0 && leb (number i) highest_number

unfoldable pub record_numbers_fine : Format → (count : ℕ) (old number : ℕ → ℕ) → Bool
record_numbers_fine format count old number = old_numbers format || all_to count (number_fine old number)

unfoldable pub unit_numbers_fine : Format → List ℕ → Bool
unit_numbers_fine format s = record_numbers_fine format (units_in format s).count (old_number (unit_width format) first_widths.unit_number s) (units_in format s).number

unfoldable pub reference_numbers_fine : Format → List ℕ → Bool
reference_numbers_fine format s =
    record_numbers_fine format (references_in format s).count (old_number (reference_width format) first_widths.reference_unit s) (references_in format s).unit

unfoldable pub event_numbers_fine : Format → List ℕ → Bool
event_numbers_fine format s = record_numbers_fine format (events_in format s).count (old_number (event_width format) first_widths.event_unit s) (events_in format s).unit

unfoldable pub numbers_fine : Format → (units references events : List ℕ) → Bool
numbers_fine format u r e = unit_numbers_fine format u && reference_numbers_fine format r && event_numbers_fine format e

-- strictly rising: the key of record i is above that of the record before
unfoldable pub rises : (ℕ → ℕ) → ℕ → Bool
rises key i = eqb i 0 || ltb (key (i - 1)) (key i)

-- 6: a unit's fields
unfoldable pub unit_fields_fine : (area capability rate average_price constrained_hours : ℕ) → Bool
unit_fields_fine area capability rate average_price constrained_hours =
    leb area highest_area && leb lowest_capability capability && leb capability highest_capability && leb rate highest_rate
    && leb average_price highest_average_price && leb constrained_hours most_constrained_hours

unfoldable pub unit_fine : Format → List ℕ → ℕ → Bool
unit_fine format s i =
    unit_fields_fine ((units_in format s).area i) ((units_in format s).capability i) ((units_in format s).rate i) ((units_in format s).average_price i)
    ((units_in format s).constrained_hours i)
    && unit_spare_fine (record_at (unit_width format) s i)
    && rises (units_in format s).number i

unfoldable pub units_fine : Format → List ℕ → Bool
units_fine format s = all_to (units_in format s).count (unit_fine format s)

-- 7: a reference, among these units
unfoldable pub reference_fields_fine : (component value : ℕ) → Bool
reference_fields_fine component value = leb component highest_component && reference_in_range component value

unfoldable pub reference_fine : Format → Units → List ℕ → ℕ → Bool
reference_fine format u s i =
    reference_fields_fine ((references_in format s).component i) ((references_in format s).value i)
    && reference_spare_fine (record_at (reference_width format) s i)
    && is_listed u ((references_in format s).unit i)
    && rises (reference_key (references_in format s)) i

unfoldable pub references_fine : Format → Units → List ℕ → Bool
references_fine format u s = all_to (references_in format s).count (reference_fine format u s)

-- 8: the correction, laid out as references, its numbers held to 17's test
unfoldable pub correction_fine : Format → Units → List ℕ → Bool
correction_fine format u s =
    size_fine (length s) (reference_width format) most_references && reference_numbers_fine format s && references_fine format u s

-- 9: a past entry's fields, and its spare bytes
unfoldable pub violation_fine : Violation → Bool
violation_fine v = (eqb v.kind 1 || eqb v.kind 3) && leb v.market highest_market && leb v.day highest_day

unfoldable pub entry_fine : List ℕ → ℕ → Bool
entry_fine s i = violation_fine ((past_in s).entry i) && entry_spare_fine (record_at past_width s i)

unfoldable pub past_fine : List ℕ → Bool
past_fine s = all_to (past_in s).count (entry_fine s)

-- 10: what a kind asks, of an event of that kind alone
abbrev pub of_kind : (k kind : ℕ) → Bool → Bool
of_kind k kind fine = not (eqb kind k) || fine

-- no bit from that hour on
unfoldable pub mask_fine : (hours mask : ℕ) → Bool
mask_fine hours mask = ltb mask (2 ^ hours)

-- Q and R, by kind
unfoldable pub quantities_fine : (hours kind market Q R : ℕ) → Bool
quantities_fine hours kind market Q R =
    of_kind 1 kind (eqb Q 0 && eqb R 0)
    && of_kind 2 kind (eqb Q 0 && eqb R 0)
    && of_kind 3 kind (within 32 highest_fuel_money Q && within 32 highest_fuel_money R && (eqb market 0 || eqb R 0))
    && of_kind 4 kind (mask_fine hours Q && leb R most_run_hours)

unfoldable pub fields_fine : (hours kind market component impact day P Q R : ℕ) → Bool
fields_fine hours kind market component impact day P Q R =
    leb lowest_kind kind && leb kind highest_kind && leb market highest_market && of_kind 2 kind (eqb market 1)
    && leb component highest_component && (eqb kind 4 || eqb component 0)
    && leb impact highest_impact && (leb kind 2 || eqb impact 0)
    && leb day highest_day && mask_fine hours P
    && quantities_fine hours kind market Q R

-- an hour cell, by kind
unfoldable pub cell_fine : (kind component a b m : ℕ) → Bool
cell_fine kind component a b m =
    of_kind 1 kind (within 32 highest_price b && eqb m 0)
    && of_kind 2 kind (leb b highest_revenue && eqb m 0)
    && of_kind 3 kind (leb a highest_energy && within 32 highest_price_change b && eqb m 0)
    && of_kind 4 kind (bid_in_range component a && within 32 highest_price b && leb m highest_megawatts)

-- hour h of event i
unfoldable pub hour_fine : Events → (a : ℕ → ℕ → ℕ) → (i h : ℕ) → Bool
hour_fine e a i h = cell_fine (e.kind i) (e.component i) (a i h) (e.b i h) (e.m i h)

unfoldable pub event_fine : Events → (a : ℕ → ℕ → ℕ) → ℕ → Bool
event_fine e a i =
    fields_fine (e.hours i) (e.kind i) (e.market i) (e.component i) (e.impact i) (e.day i) (e.P i) (e.Q i) (e.R i)
    && all_to (e.hours i) (hour_fine e a i)

unfoldable pub events_fine : Format → List ℕ → Bool
events_fine format s = all_to (events_in format s).count (event_fine (events_in format s) (amounts_in format s))

-- 18: days that the calendar has
unfoldable pub days_fine : Past → Events → Bool
days_fine p e = all_to p.count (λ i. in_calendar (p.entry i).day) && all_to e.count (λ i. in_calendar (e.day i))

-- 19: capability periods that are their days'
unfoldable pub periods_fine : Past → Events → Bool
periods_fine p e =
    all_to p.count (λ i. is_period (p.entry i).day (p.entry i).period) && all_to e.count (λ i. is_period (e.day i) (e.period i))

-- 11: the order of events: by day, kind, market, unit, component; the unit has 20 bits, which 17 sees to
unfoldable pub event_key : Events → ℕ → ℕ
event_key e i =
    2 ^ 44 * e.day i + 2 ^ 36 * e.kind i + 2 ^ 28 * e.market i + 2 ^ 8 * e.unit i + e.component i

unfoldable pub order_fine : Events → Bool
order_fine e = all_to e.count (rises (event_key e))

-- 12: the event's unit is listed
unfoldable pub event_listed : Units → Events → ℕ → Bool
event_listed u e i = is_listed u (e.unit i)

unfoldable pub events_listed : Units → Events → Bool
events_listed u e = all_to e.count (event_listed u e)

-- 13: kinds 1 and 2, no a above the capability
unfoldable pub within_capability : Units → Events → (a : ℕ → ℕ → ℕ) → (i h : ℕ) → Bool
within_capability u e a i h = leb (a i h) (u.capability (place_of u (e.unit i)))

unfoldable pub amount_fine : Units → Events → (a : ℕ → ℕ → ℕ) → ℕ → Bool
amount_fine u e a i = ltb 2 (e.kind i) || all_to (e.hours i) (within_capability u e a i)

unfoldable pub amounts_fine : Format → Units → List ℕ → Bool
amounts_fine format u s = all_to (events_in format s).count (amount_fine u (events_in format s) (amounts_in format s))

-- 14: kind 4 has r, and c where it is read
unfoldable pub reference_found : (own correct : References) → Events → ℕ → Bool
reference_found own correct e i =
    not (eqb (e.kind i) 4)
    || (has_reference own (e.unit i) (e.component i)
    && (not (reads_correct (e.component i)) || has_reference correct (e.unit i) (e.component i)))

unfoldable pub references_found : (own correct : References) → Events → Bool
references_found own correct e = all_to e.count (reference_found own correct e)

-- 15: a row for each event
unfoldable pub rows_fine : Format → Events → (rows_length : ℕ) → Bool
rows_fine format e rows_length = leb (row_width format * e.count) rows_length

-- ---- the limits, in checking order

-- a limit of the table: its number, and whether the case meets it
pub record Limit : Type 0 where
  pub number : ℕ
  pub met : Bool

abbrev pub limit : (number : ℕ) (met : Bool) → Limit
limit n m = record { number = n; met = m }

-- 1 to 5, of the header
abbrev pub header_limits : (file : List ℕ) → List Limit
header_limits f =
    limit 1 (length_fine f)
    ∷ limit 2 (version_fine f)
    ∷ limit 3 (sections_fine f)
    ∷ limit 4 (pairs_fine f)
    ∷ limit 5 (sizes_fine f)
    ∷ []

-- 17, of the units, the references and the events; 6 to 9, of the units, the references, the correction and the past
abbrev pub record_limits : Format → (units references correction past events : List ℕ) → List Limit
record_limits format units references correction past events =
    limit 17 (numbers_fine format units references events)
    ∷ limit 6 (units_fine format units)
    ∷ limit 7 (references_fine format (units_in format units) references)
    ∷ limit 8 (correction_fine format (units_in format units) correction)
    ∷ limit 9 (past_fine past)
    ∷ []

-- 10, of the events' fields; 18 and 19, of the days and periods of the past and the events; 11, of the events' order
abbrev pub field_limits : Format → (past events : List ℕ) → List Limit
field_limits format past events =
    limit 10 (events_fine format events)
    ∷ limit 18 (days_fine (past_in past) (events_in format events))
    ∷ limit 19 (periods_fine (past_in past) (events_in format events))
    ∷ limit 11 (order_fine (events_in format events))
    ∷ []

-- 12 to 15, of what is found for the events: units, reference levels and rows
abbrev pub found_limits : Format → (units references correct events : List ℕ) (rows_length : ℕ) → List Limit
found_limits format units references correct events rows_length =
    limit 12 (events_listed (units_in format units) (events_in format events))
    ∷ limit 13 (amounts_fine format (units_in format units) events)
    ∷ limit 14 (references_found (references_in format references) (references_in format correct) (events_in format events))
    ∷ limit 15 (rows_fine format (events_in format events) rows_length)
    ∷ []

-- every limit of a case with its correction and a rows buffer of that length
abbrev pub limits : (file correction : List ℕ) (rows_length : ℕ) → List Limit
limits f k n =
    header_limits f
    ++ (record_limits (format_in f) (section_of f 0) (section_of f 1) k (section_of f 2) (section_of f 3)
    ++ (field_limits (format_in f) (section_of f 2) (section_of f 3)
    ++ found_limits (format_in f) (section_of f 0) (section_of f 1) (correct_references k (section_of f 1)) (section_of f 3) n))

-- ---- the number

-- the number where the test fails, else what follows
abbrev pub unless : Bool → (number next : ℕ) → ℕ
unless fine number next = cond fine next number

-- the number of the first limit that is not met, else what follows
abbrev pub first_broken : List Limit → (next : ℕ) → ℕ
first_broken [] next = next
first_broken (l ∷ ls) next = unless l.met l.number (first_broken ls next)

-- the number of the first limit that the case breaks, or 0: each number over everything before the next
unfoldable pub refusal : (file correction : List ℕ) (rows_length : ℕ) → ℕ
refusal f k n = first_broken (limits f k n) 0

-- rows for every case: a call that writes none takes them as there, so that 15 never applies
abbrev pub most_rows : (file : List ℕ) → ℕ
most_rows f = row_width (format_in f) * most_events

-- ---- what the number says

abbrev pub MeetsAll : List Limit → Type 0
MeetsAll [] = Unit {0}
MeetsAll (l ∷ ls) = (l.met ≡ true) × MeetsAll ls

-- the limit that decides: it is broken, and every limit before it in checking order is met; m is its number
pub record DecidedBy (ls : List Limit) (m : ℕ) : Type 0 where
  pub before : List Limit
  pub first : Limit
  pub after : List Limit
  pub split : ls ≡ before ++ (first ∷ after)
  pub met : MeetsAll before
  pub broken : first.met ≡ false
  pub number : first.number ≡ m
