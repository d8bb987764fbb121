-- The working of an event's penalty (docs/RULES.md, R13): the terms of S that the figures of its row are made of.
use Rattle.std.specs.Prelude.{ℕ, ◌-◌, ◌*◌, false, cond, ◌&&◌, ◌||◌, List, ltb, eqb, replicate}
use Rattle.binary.specs.Bounded.{last_to}
use Rattle.binary.specs.Lists.{list_to}
use Rattle.binary.specs.Word.{positive_part, negative_part}
use Rattle.tariff.specs.SanctionRules.{fuel_charge, least_charge}
use Rattle.casefile.specs.Layout.{most_hours}
use Rattle.casefile.specs.Case.{Case}
use Rattle.casefile.specs.Decode.{decode}
use Rattle.casefile.specs.Lookup.{together}
use Rattle.limits.specs.Refusal.{refusal, most_rows}
use Rattle.conduct.specs.Flags.{flagged}
use Rattle.sanctions.specs.Penalties.{n3, n2, withheld_amount, dispatch_revenue, gain, loss, tcc_change, lowest_unit, fuel_multiplier, multiplier, penalty}
use Rattle.penalty_terms.specs.declared.penalty_working.PenaltyWorking.{PenaltyWorking}

-- the row that bears the penalty: of a fuel event that of its party-day's lowest unit, of any other its own
unfoldable pub bearer : Case → ℕ → ℕ
bearer c i = cond (eqb (c.events.kind i) 3) (last_to c.events.count (λ j. together c i j && lowest_unit c j)) i

-- X of the party-day of event i
unfoldable pub charge_of : Case → ℕ → ℕ
charge_of c i = fuel_charge (fuel_multiplier c i) (gain c i) (loss c i) (tcc_change c i)

-- a figure of events of kind k, else 0
abbrev pub of_events : Case → (k i figure : ℕ) → ℕ
of_events c k i figure = cond (eqb (c.events.kind i) k) figure 0

-- what a flagged hour adds: of kind 2 its b, of kinds 1 and 3 a × (b, or 0 if negative)
unfoldable pub hour_term : Case → (i h : ℕ) → ℕ
hour_term c i h =
    cond (flagged c i h)
    (cond (eqb (c.events.kind i) 2) (c.events.b i h)
    (cond (eqb (c.events.kind i) 1 || eqb (c.events.kind i) 3) (c.a i h * positive_part 32 (c.events.b i h)) 0))
    0

-- what a flagged hour of kind 3 takes from E: a × -b where b is negative
unfoldable pub hour_loss : Case → (i h : ℕ) → ℕ
hour_loss c i h = of_events c 3 i (cond (flagged c i h) (c.a i h * negative_part 32 (c.events.b i h)) 0)

-- multiplier, N3, N2 and penalty are those of the row that bears the penalty; E is given as its positive and negative part
unfoldable pub penalty_working_at : Case → ℕ → PenaltyWorking
penalty_working_at c i =
    record {
      number = 0;
      kind = c.events.kind i;
      multiplier = multiplier c (bearer c i);
      below = eqb (c.events.kind i) 3 && ltb (charge_of c (bearer c i)) least_charge;
      n3 = n3 c (bearer c i);
      n2 = n2 c (bearer c i);
      row = bearer c i;
      amount = of_events c 1 i (withheld_amount c i);
      revenue = of_events c 2 i (dispatch_revenue c i);
      e_positive = of_events c 3 i (gain c (bearer c i) - loss c (bearer c i));
      e_negative = of_events c 3 i (loss c (bearer c i) - gain c (bearer c i));
      t = of_events c 3 i (tcc_change c (bearer c i));
      x = of_events c 3 i (charge_of c (bearer c i));
      penalty = penalty c (bearer c i);
      hours = list_to most_hours (hour_term c i);
      losses = list_to most_hours (hour_loss c i);
    }

unfoldable pub refused_penalty : (number : ℕ) → PenaltyWorking
refused_penalty n =
    record {
      number = n;
      kind = 0;
      multiplier = 0;
      below = false;
      n3 = 0;
      n2 = 0;
      row = 0;
      amount = 0;
      revenue = 0;
      e_positive = 0;
      e_negative = 0;
      t = 0;
      x = 0;
      penalty = 0;
      hours = replicate most_hours 0;
      losses = replicate most_hours 0;
    }

-- the case's refusal, else 10 where there is no such event
unfoldable pub penalty_working_of : (file correction : List ℕ) (event : ℕ) → PenaltyWorking
penalty_working_of f k i =
    cond (eqb (refusal f k (most_rows f)) 0)
    (cond (ltb i (decode f).events.count) (penalty_working_at (decode f) i) (refused_penalty 10))
    (refused_penalty (refusal f k (most_rows f)))
