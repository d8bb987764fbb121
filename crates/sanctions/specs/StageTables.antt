-- The figures of a row as the code finds them: in the bytes of past and events, in the tables that earlier stages have
-- filled (groups, leaders, masks), and in the penalties of the rows before it.
use Rattle.std.specs.Prelude.{ℕ, ◌+◌, ◌-◌, ◌*◌, Bool, cond, ◌&&◌, ◌||◌, List, ltb, eqb, get_or}
use Rattle.binary.specs.Bounded.{sum_to, any_to, bit_of}
use Rattle.binary.specs.Word.{positive_part, negative_part}
use Rattle.tariff.specs.SanctionRules.{ladder, withheld_penalty, dispatch_penalty, fuel_day_counts, fuel_penalty}
use Rattle.casefile.specs.declared.layout.Format.{Format}
use Rattle.casefile.specs.Layout.{most_hours}
use Rattle.casefile.specs.Case.{Case}
use Rattle.casefile.specs.Decode.{cells_from, past_in, events_in}
use Rattle.casefile.specs.StageRead.{cell_of}
use Rattle.instance_counts.specs.StageInstances.{with_impact, instances_at}
use Rattle.instance_counts.specs.declared.instances.Instances.{Instances}
use Rattle.sanctions.specs.Penalties.{counts_fuel, fuel_multiplier_after, multiplier, n3, n2, penalty}
use Rattle.sanctions.specs.declared.fuel.Energy.{Energy}
use Rattle.sanctions.specs.declared.fuel.PartyDay.{PartyDay}
use Rattle.sanctions.specs.declared.sanction.Sanction.{Sanction}

-- ---- the hours of an event's cells that a mask has

-- a × the given part of b
unfoldable pub hour_energy : (part : ℕ → ℕ) (cells : List ℕ) (mask h : ℕ) → ℕ
hour_energy part cells mask h = cond (bit_of mask h) ((cell_of cells h).a * part (cell_of cells h).b) 0

-- b
unfoldable pub hour_revenue : (cells : List ℕ) (mask h : ℕ) → ℕ
hour_revenue cells mask h = cond (bit_of mask h) (cell_of cells h).b 0

-- ---- Withheld

unfoldable pub no_sanction : Sanction
no_sanction = record { multiplier = 0; n3 = 0; n2 = 0; penalty = 0 }

-- the row of an event with those N3 and N2; no instance has N3 0
unfoldable pub instance_row : Instances → (amount : ℕ) → Sanction
instance_row x amount =
    cond (eqb x.n3 0) no_sanction
    (record {
      multiplier = ladder x.n3 x.n2;
      n3 = x.n3;
      n2 = x.n2;
      penalty = withheld_penalty (ladder x.n3 x.n2) amount;
    })

unfoldable pub withheld_row : Format → (past events groups masks : List ℕ) (i : ℕ) → Sanction
withheld_row format past events groups masks i =
    instance_row (instances_at format past events groups masks i)
    (sum_to most_hours (hour_energy (positive_part 32) (cells_from format events i) (get_or masks i 0)))

-- ---- Dispatch

unfoldable pub dispatch_row : Format → (events masks : List ℕ) (i : ℕ) → Sanction
dispatch_row format events masks i =
    cond (with_impact format events masks i)
    (record {
      multiplier = 3;
      n3 = 0;
      n2 = 0;
      penalty = dispatch_penalty (sum_to most_hours (hour_revenue (cells_from format events i) (get_or masks i 0)));
    })
    no_sanction

-- ---- Fuel

-- an event's part of E, by the given part of signed words
unfoldable pub energy_in : (part : ℕ → ℕ) (Q : ℕ) (cells : List ℕ) (mask : ℕ) → ℕ
energy_in part Q cells mask = 10 * part Q + sum_to most_hours (hour_energy part cells mask)

unfoldable pub energy_of : (Q : ℕ) (cells : List ℕ) (mask : ℕ) → Energy
energy_of Q cells mask = record { gain = energy_in (positive_part 32) Q cells mask; loss = energy_in (negative_part 32) Q cells mask }

-- a figure of event j, where event i is its leader
unfoldable pub led_by : (leaders : List ℕ) (i : ℕ) (figure : ℕ → ℕ) (j : ℕ) → ℕ
led_by leaders i figure j = cond (eqb (get_or leaders j 0) i) (figure j) 0

-- the figures of event j that its party-day sums
abbrev pub energy_at : Format → (part : ℕ → ℕ) (events : List ℕ) (mask j : ℕ) → ℕ
energy_at format part events mask j = energy_in part ((events_in format events).Q j) (cells_from format events j) mask

abbrev pub tcc_at : Format → (part : ℕ → ℕ) (events : List ℕ) (j : ℕ) → ℕ
tcc_at format part events j = part ((events_in format events).R j)

unfoldable pub party_share : Format → (events leaders : List ℕ) (mask i j : ℕ) → PartyDay
party_share format events leaders mask i j =
    record {
      gain = led_by leaders i (energy_at format (positive_part 32) events mask) j;
      loss = led_by leaders i (energy_at format (negative_part 32) events mask) j;
      rise = led_by leaders i (tcc_at format (positive_part 32) events) j;
      fall = led_by leaders i (tcc_at format (negative_part 32) events) j;
    }

-- the sums over the first n events
unfoldable pub party_day : Format → (events leaders : List ℕ) (mask i n : ℕ) → PartyDay
party_day format events leaders mask i n =
    record {
      gain = sum_to n (led_by leaders i (energy_at format (positive_part 32) events mask));
      loss = sum_to n (led_by leaders i (energy_at format (negative_part 32) events mask));
      rise = sum_to n (led_by leaders i (tcc_at format (positive_part 32) events));
      fall = sum_to n (led_by leaders i (tcc_at format (negative_part 32) events));
    }

-- row j has a fuel penalty above 0 of this group, in the day's window
unfoldable pub fuel_row_counts : Format → (events groups penalties : List ℕ) (day group j : ℕ) → Bool
fuel_row_counts format events groups penalties day group j =
    ltb 0 (get_or penalties j 0) && eqb ((events_in format events).kind j) 3 && eqb (get_or groups j 0) group
    && fuel_day_counts day ((events_in format events).day j)

unfoldable pub fuel_entry_counts : (past : List ℕ) (day group j : ℕ) → Bool
fuel_entry_counts past day group j = counts_fuel day group ((past_in past).entry j)

unfoldable pub multiplier_at : Format → (past events groups penalties : List ℕ) (i : ℕ) → ℕ
multiplier_at format past events groups penalties i =
    fuel_multiplier_after
    (any_to i (fuel_row_counts format events groups penalties ((events_in format events).day i) (get_or groups i 0))
    || any_to (past_in past).count (fuel_entry_counts past ((events_in format events).day i) (get_or groups i 0)))

-- the penalty of a party-day under M
unfoldable pub party_penalty : (M : ℕ) → PartyDay → ℕ
party_penalty M d = fuel_penalty M d.gain d.loss (d.rise - d.fall)

unfoldable pub fuel_row : Format → (past events groups leaders masks penalties : List ℕ) (i : ℕ) → Sanction
fuel_row format past events groups leaders masks penalties i =
    record {
      multiplier = multiplier_at format past events groups penalties i;
      n3 = 0;
      n2 = 0;
      penalty =
          party_penalty (multiplier_at format past events groups penalties i)
          (party_day format events leaders (get_or masks i 0) i (events_in format events).count);
    }

-- ---- every kind

unfoldable pub row_at : Format → (past events groups leaders masks penalties : List ℕ) (i : ℕ) → Sanction
row_at format past events groups leaders masks penalties i =
    cond (eqb ((events_in format events).kind i) 1) (withheld_row format past events groups masks i)
    (cond (eqb ((events_in format events).kind i) 2) (dispatch_row format events masks i)
    (cond (eqb ((events_in format events).kind i) 3 && eqb (get_or leaders i 0) i) (fuel_row format past events groups leaders masks penalties i)
    no_sanction))

-- what the definitions say of row i
abbrev pub sanction_of : Case → ℕ → Sanction
sanction_of c i = record { multiplier = multiplier c i; n3 = n3 c i; n2 = n2 c i; penalty = penalty c i }
