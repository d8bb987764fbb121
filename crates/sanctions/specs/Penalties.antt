-- Multipliers in halves and penalties in cents of a case's events (docs/RULES.md, S; tariff 23.4.3).
use Rattle.std.specs.Prelude.{ℕ, zero, suc, ◌+◌, ◌-◌, ◌*◌, ◌<◌, Bool, true, false, cond, not, ◌&&◌, ◌||◌, List, ◌≡◌, ltb, eqb, ℤ, pos, ◌+ℤ◌, ◌*ℤ◌}
use Rattle.binary.specs.Bounded.{sum_to, count_to, any_to}
use Rattle.binary.specs.Integers.{signed, sum_ℤ_to}
use Rattle.binary.specs.Lists.{Bytes}
use Rattle.binary.specs.Word.{positive_part, negative_part}
use Rattle.tariff.specs.Ladder.{InstancesInRange, AsPrinted}
use Rattle.tariff.specs.SanctionRules.{period_counts, ladder, withheld_penalty, dispatch_penalty, fuel_day_counts, fuel_penalty}
use Rattle.casefile.specs.Case.{Violation, Case}
use Rattle.casefile.specs.Decode.{decode}
use Rattle.casefile.specs.Lookup.{group_of, together}
use Rattle.limits.specs.Refusal.{refusal}
use Rattle.conduct.specs.Flags.{sum_together, fuel_flag, flagged}

-- impact 1 and a flagged hour
unfoldable pub flagged_with_impact : Case → ℕ → Bool
flagged_with_impact c i = eqb (c.events.impact i) 1 && any_to (c.events.hours i) (flagged c i)

-- ---- Withheld (23.4.3.3.1, 23.4.3.4)

-- a withheld event with impact 1 and a flagged hour is an instance
unfoldable pub is_instance : Case → ℕ → Bool
is_instance c i = eqb (c.events.kind i) 1 && flagged_with_impact c i

-- event j is an instance of event i's group and market, whose period is event i's own or one of the k before
unfoldable pub counts_here : Case → (k i j : ℕ) → Bool
counts_here c k i j =
    is_instance c j && eqb (group_of c j) (group_of c i) && eqb (c.events.market j) (c.events.market i)
    && period_counts k (c.events.period i) (c.events.period j)

-- a past entry of kind 1 counts likewise
unfoldable pub counts_past : Case → (k i : ℕ) → Violation → Bool
counts_past c k i v =
    eqb v.kind 1 && eqb v.group (group_of c i) && eqb v.market (c.events.market i)
    && period_counts k (c.events.period i) v.period

-- 1 plus the instances earlier in the file and the past entries that count: k is 2 for N3 and 1 for N2
unfoldable pub instances : Case → (k i : ℕ) → ℕ
instances c k i =
    1 + count_to i (counts_here c k i) + count_to c.past.count (λ j. counts_past c k i (c.past.entry j))

-- where the event is no instance, multiplier, N3 and N2 are 0
unfoldable pub n3 : Case → ℕ → ℕ
n3 c i = cond (is_instance c i) (instances c 2 i) 0

unfoldable pub n2 : Case → ℕ → ℕ
n2 c i = cond (is_instance c i) (instances c 1 i) 0

unfoldable pub withheld_multiplier : Case → ℕ → ℕ
withheld_multiplier c i = cond (is_instance c i) (ladder (instances c 2 i) (instances c 1 i)) 0

-- the sum over flagged hours of a × (b, or 0 if negative)
unfoldable pub withheld_amount : Case → ℕ → ℕ
withheld_amount c i =
    sum_to (c.events.hours i) (λ h. cond (flagged c i h) (c.a i h * positive_part 32 (c.events.b i h)) 0)

unfoldable pub withheld_penalty_of : Case → ℕ → ℕ
withheld_penalty_of c i = withheld_penalty (withheld_multiplier c i) (withheld_amount c i)

-- ---- Dispatch (23.4.3.3.2)

unfoldable pub dispatch_multiplier : Case → ℕ → ℕ
dispatch_multiplier c i = cond (flagged_with_impact c i) 3 0

-- the flagged hours' b
unfoldable pub dispatch_revenue : Case → ℕ → ℕ
dispatch_revenue c i = sum_to (c.events.hours i) (λ h. cond (flagged c i h) (c.events.b i h) 0)

unfoldable pub dispatch_penalty_of : Case → ℕ → ℕ
dispatch_penalty_of c i = cond (flagged_with_impact c i) (dispatch_penalty (dispatch_revenue c i)) 0

-- ---- Fuel (23.4.3.3.3)

-- an integer of each event, summed over event i's party-day
unfoldable pub party_day_sum : Case → ℕ → (figure : ℕ → ℤ) → ℤ
party_day_sum c i figure = sum_ℤ_to c.events.count (λ j. cond (together c i j) (figure j) (pos 0))

-- E, an integer: 10 × the sum of Q, and the sum of a × b over the union hours, both over the party-day's events
unfoldable pub party_day_e : Case → ℕ → ℤ
party_day_e c i =
    pos 10 *ℤ party_day_sum c i (λ j. signed 32 (c.events.Q j))
    +ℤ party_day_sum c i
    (λ j. sum_ℤ_to (c.events.hours j) (λ h. cond (fuel_flag c i h) (pos (c.a j h) *ℤ signed 32 (c.events.b j h)) (pos 0)))

-- event j's part of the E of event i's party-day: 10 × Q, and a × b over the union hours; of signed words the given part
unfoldable pub energy_part : (part : ℕ → ℕ) → Case → (i j : ℕ) → ℕ
energy_part part c i j =
    10 * part (c.events.Q j)
    + sum_to (c.events.hours j) (λ h. cond (fuel_flag c i h) (c.a j h * part (c.events.b j h)) 0)

-- E as its two sums: it is gain less loss
unfoldable pub gain : Case → ℕ → ℕ
gain c i = sum_together c i (energy_part (positive_part 32) c i)

unfoldable pub loss : Case → ℕ → ℕ
loss c i = sum_together c i (energy_part (negative_part 32) c i)

-- T, the sum of R, or 0 if negative
unfoldable pub tcc_change : Case → ℕ → ℕ
tcc_change c i =
    sum_together c i (λ j. positive_part 32 (c.events.R j)) - sum_together c i (λ j. negative_part 32 (c.events.R j))

-- event i is its party-day's event of the lowest unit
unfoldable pub lowest_unit : Case → ℕ → Bool
lowest_unit c i = not (any_to c.events.count (λ j. together c i j && ltb (c.events.unit j) (c.events.unit i)))

-- a kind 3 past entry of group g in the window of day d
unfoldable pub counts_fuel : (d g : ℕ) → Violation → Bool
counts_fuel d g v = eqb v.kind 3 && eqb v.group g && fuel_day_counts d v.day

unfoldable pub past_fuel : Case → (d g : ℕ) → Bool
past_fuel c d g = any_to c.past.count (λ j. counts_fuel d g (c.past.entry j))

-- row n is where a fuel penalty of group g in the window of day d, stands
unfoldable pub fuel_stands : Case → (n d g : ℕ) → Bool
fuel_stands c n d g =
    eqb (c.events.kind n) 3 && lowest_unit c n && eqb (group_of c n) g && fuel_day_counts d (c.events.day n)

-- M: 3 halves after a fuel penalty above 0 or a past entry, else 2
unfoldable pub fuel_multiplier_after : (prior : Bool) → ℕ
fuel_multiplier_after prior = cond prior 3 2

-- the penalty of event i's party-day under M
unfoldable pub fuel_penalty_under : Case → (i M : ℕ) → ℕ
fuel_penalty_under c i M = fuel_penalty M (gain c i) (loss c i) (tcc_change c i)

-- a fuel penalty above 0 of group g in the window of day d, stands on one of the first n rows. Events rise by day, so
-- that event i's are all on the rows before it
unfoldable pub prior_fuel : Case → (n d g : ℕ) → Bool
prior_fuel c zero d g = false
prior_fuel c (suc n) d g =
    prior_fuel c n d g
    || (fuel_stands c n d g
    && ltb 0
    (fuel_penalty_under c n
    (fuel_multiplier_after
    (prior_fuel c n (c.events.day n) (group_of c n) || past_fuel c (c.events.day n) (group_of c n)))))

unfoldable pub fuel_multiplier : Case → ℕ → ℕ
fuel_multiplier c i =
    fuel_multiplier_after (prior_fuel c i (c.events.day i) (group_of c i) || past_fuel c (c.events.day i) (group_of c i))

unfoldable pub fuel_penalty_of : Case → ℕ → ℕ
fuel_penalty_of c i = fuel_penalty_under c i (fuel_multiplier c i)

-- ---- every kind

-- the multiplier on event i's row; fuel's stands on the lowest unit's
unfoldable pub multiplier : Case → ℕ → ℕ
multiplier c i =
    cond (eqb (c.events.kind i) 1) (withheld_multiplier c i)
    (cond (eqb (c.events.kind i) 2) (dispatch_multiplier c i)
    (cond (eqb (c.events.kind i) 3 && lowest_unit c i) (fuel_multiplier c i) 0))

unfoldable pub penalty : Case → ℕ → ℕ
penalty c i =
    cond (eqb (c.events.kind i) 1) (withheld_penalty_of c i)
    (cond (eqb (c.events.kind i) 2) (dispatch_penalty_of c i)
    (cond (eqb (c.events.kind i) 3 && lowest_unit c i) (fuel_penalty_of c i) 0))

unfoldable pub total_penalty : Case → ℕ
total_penalty c = sum_to c.events.count (penalty c)

-- ---- instances and the ladder

-- 1 ≤ N2 ≤ N3 ≤ 456, so that exactly one case of the ladder holds, and the row has its multiplier
pub record ByLadder (c : Case) (i : ℕ) : Type 0 where
  pub range : InstancesInRange (n3 c i) (n2 c i)
  pub printed : AsPrinted (n3 c i) (n2 c i)
  pub on_row : multiplier c i ≡ ladder (n3 c i) (n2 c i)

-- this holds for every instance of every accepted case
abbrev pub InstancesByLadder : Type 0
InstancesByLadder =
    (file correction : List ℕ) (rows_length i : ℕ)
    → refusal file correction rows_length ≡ 0
    → i < (decode file).events.count
    → is_instance (decode file) i ≡ true
    → ByLadder (decode file) i

-- ---- M by the whole file

-- row j has a fuel penalty above 0 of group g in the window of day d
unfoldable pub counts_fuel_here : Case → (d g j : ℕ) → Bool
counts_fuel_here c d g j =
    ltb 0 (penalty c j) && eqb (c.events.kind j) 3 && eqb (group_of c j) g && fuel_day_counts d (c.events.day j)

-- 3 halves where some row of the file has a fuel penalty above 0 that counts, or a past entry counts, else 2
unfoldable pub fuel_multiplier_here : Case → ℕ → ℕ
fuel_multiplier_here c i =
    fuel_multiplier_after
    (any_to c.events.count (counts_fuel_here c (c.events.day i) (group_of c i)) || past_fuel c (c.events.day i) (group_of c i))

-- in every accepted case M is this, on every row where it stands
abbrev pub MultiplierByFile : Type 0
MultiplierByFile =
    (file correction : List ℕ) (rows_length i : ℕ)
    → Bytes file
    → refusal file correction rows_length ≡ 0
    → i < (decode file).events.count
    → (decode file).events.kind i ≡ 3
    → lowest_unit (decode file) i ≡ true
    → multiplier (decode file) i ≡ fuel_multiplier_here (decode file) i
