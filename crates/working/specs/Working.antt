-- The pencil working of hour h of event i: the figures that its conduct test reads, the comparisons, and N3 and N2
-- (docs/RULES.md, R12).
use Rattle.std.specs.Prelude.{ℕ, ◌+◌, ◌-◌, Bool, false, cond, ◌&&◌, ◌||◌, List, ◌≡◌, ltb, leb, eqb, replicate}
use Rattle.binary.specs.Bounded.{bit_of}
use Rattle.binary.specs.Word.{positive_part, negative_part}
use Rattle.tariff.specs.declared.comparisons.Comparisons.{Comparisons}
use Rattle.tariff.specs.ConductTests.{increase}
use Rattle.tariff.specs.Comparisons.{no_comparison, comparisons_of, withheld_comparisons, dispatch_comparisons, fuel_comparisons, bid_comparisons}
use Rattle.casefile.specs.Layout.{most_hours}
use Rattle.casefile.specs.Case.{Case}
use Rattle.casefile.specs.Decode.{decode}
use Rattle.casefile.specs.Lookup.{unit_of}
use Rattle.limits.specs.Refusal.{refusal, most_rows}
use Rattle.conduct.specs.Flags.{tight, sum_together, time_total, group_capability, group_sum, flagged}
use Rattle.casefile.specs.Lookup.{bid_level}
use Rattle.sanctions.specs.Penalties.{n3, n2}
use Rattle.working.specs.declared.figures.Sums.{Sums}
use Rattle.working.specs.declared.figures.Figures.{Figures}
use Rattle.working.specs.declared.figures.Counts.{Counts}
use Rattle.working.specs.declared.figures.Working.{Working}

-- ---- the figures

-- how many events of the party-day have the hour in their P
unfoldable pub fuel_events : Case → (i h : ℕ) → ℕ
fuel_events c i h = sum_together c i (λ j. cond (bit_of (c.events.P j) h) 1 0)

-- S of kinds 1 and 2, G of kind 1, the events of kind 3
unfoldable pub sums_of : Case → (i h : ℕ) → Sums
sums_of c i h =
    record {
      s = cond (eqb (c.events.kind i) 1 || eqb (c.events.kind i) 2) (group_sum c i h) 0;
      g = cond (eqb (c.events.kind i) 1) (group_capability c i) 0;
      fuel_events = cond (eqb (c.events.kind i) 3) (fuel_events c i h) 0;
    }

-- the positive d of that unit, day, market and hour, added, for components 4 to 6
unfoldable pub total_of : Case → (i h : ℕ) → ℕ
total_of c i h = cond (leb 4 (c.events.component i) && leb (c.events.component i) 6) (time_total c i h) 0

unfoldable pub figures_with : Case → (i h : ℕ) → (reference : ℕ) → Sums → (total : ℕ) → Figures
figures_with c i h reference sums total =
    record {
      kind = c.events.kind i;
      component = c.events.component i;
      market = c.events.market i;
      tight = tight c i h;
      a = c.a i h;
      reference = reference;
      capability = c.units.capability (unit_of c i);
      rate = c.units.rate (unit_of c i);
      average_price = c.units.average_price (unit_of c i);
      constrained_hours = c.units.constrained_hours (unit_of c i);
      s = sums.s;
      g = sums.g;
      fuel_events = sums.fuel_events;
      total = total;
    }

-- r is that of a bid
unfoldable pub figures_of : Case → (i h : ℕ) → Figures
figures_of c i h = figures_with c i h (bid_level c.references c.events i) (sums_of c i h) (total_of c i h)

-- the comparisons of the test, by kind
unfoldable pub comparisons_for : Figures → Comparisons
comparisons_for f =
    cond (eqb f.kind 1) (withheld_comparisons f.a f.capability f.s f.g f.tight)
    (cond (eqb f.kind 2) (dispatch_comparisons f.a f.rate f.s f.tight)
    (cond (eqb f.kind 3) (fuel_comparisons f.fuel_events)
    (cond (eqb f.kind 4)
    (bid_comparisons f.component f.reference f.a f.market f.tight f.average_price f.constrained_hours f.total)
    (comparisons_of no_comparison no_comparison no_comparison no_comparison))))

-- ---- the working

-- -d = r - a, or 0 if negative
unfoldable pub decrease : (r a : ℕ) → ℕ
decrease r a = r + negative_part 32 a - positive_part 32 a

unfoldable pub working_from : Figures → (flagged : Bool) → Counts → Working
working_from f flagged counts =
    record {
      number = 0;
      flagged = flagged;
      tight = f.tight;
      failed = (comparisons_for f).failed;
      taken = (comparisons_for f).taken;
      a = f.a;
      reference = f.reference;
      increase = cond (eqb f.kind 4) (increase f.reference f.a) 0;
      decrease = cond (eqb f.kind 4) (decrease f.reference f.a) 0;
      s = f.s;
      g = f.g;
      total = f.total;
      n3 = counts.n3;
      n2 = counts.n2;
      left = (comparisons_for f).left;
      right = (comparisons_for f).right;
    }

unfoldable pub counts_of : Case → ℕ → Counts
counts_of c i = record { n3 = n3 c i; n2 = n2 c i }

unfoldable pub working_at : Case → (i h : ℕ) → Working
working_at c i h = working_from (figures_of c i h) (flagged c i h) (counts_of c i)

unfoldable pub refused_working : (number : ℕ) → Working
refused_working n =
    record {
      number = n;
      flagged = false;
      tight = false;
      failed = 0;
      taken = 0;
      a = 0;
      reference = 0;
      increase = 0;
      decrease = 0;
      s = 0;
      g = 0;
      total = 0;
      n3 = 0;
      n2 = 0;
      left = replicate 4 0;
      right = replicate 4 0;
    }

-- the case's refusal, else 10 where there is no such event or hour
unfoldable pub working_of : (file correction : List ℕ) (event hour : ℕ) → Working
working_of f k i h =
    cond (eqb (refusal f k (most_rows f)) 0)
    (cond (ltb i (decode f).events.count && ltb h most_hours) (working_at (decode f) i h) (refused_working 10))
    (refused_working (refusal f k (most_rows f)))

-- a working shows why its hour is flagged: the hour is flagged exactly where a comparison fails
abbrev pub FlaggedWhereFailed : Type 0
FlaggedWhereFailed = (file correction : List ℕ) (event hour : ℕ)
    → (working_of file correction event hour).flagged ≡ ltb 0 (working_of file correction event hour).failed
