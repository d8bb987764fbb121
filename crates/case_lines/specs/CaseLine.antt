-- The lines of a case's bids (docs/RULES.md, C24): the call gives them, and by them, and for the three times by their sum, an hour is
-- flagged.
use Rattle.std.specs.Prelude.{ℕ, ◌<◌, not, ◌||◌, ◌≡◌}
use Rattle.calls.specs.Answers.{Answer, given}
use Rattle.line.specs.OpenLine.{over_sum}
use Rattle.line.specs.BidLine.{line_of, good_side}
use Rattle.line.specs.LineCall.{line_answer}
use Rattle.casefile.specs.Case.{Case}
use Rattle.casefile.specs.Lookup.{unit_of, reference_of}
use Rattle.conduct.specs.Flags.{tight, time_total, flagged}

-- the line of hour h of bid i
unfoldable pub line_at : Case → (i h : ℕ) → ℕ
line_at c i h =
    line_of (c.events.component i) (reference_of c i) (c.events.market i) (tight c i h) (c.units.average_price (unit_of c i))
    (c.units.constrained_hours (unit_of c i))

-- what the call answers there
unfoldable pub answer_at : Case → (i h : ℕ) → Answer
answer_at c i h =
    line_answer (c.events.component i) (reference_of c i) (c.events.market i) (tight c i h) (c.units.average_price (unit_of c i))
    (c.units.constrained_hours (unit_of c i))

-- an hour of a bid
pub record BidHour (c : Case) (i h : ℕ) : Type 0 where
  pub event : i < c.events.count
  pub hour : h < c.events.hours i
  pub bid : c.events.kind i ≡ 4

-- what is promised of an accepted case
pub record LinesOf (c : Case) : Type 0 where
  -- the call gives each line
  pub given_at : (i h : ℕ) → BidHour c i h → answer_at c i h ≡ given (line_at c i h)
  -- an hour is flagged exactly where its bid is on the bad side of its line, or by the sum of the times
  pub flagged_at : (i h : ℕ) → BidHour c i h
      → flagged c i h
      ≡ (not (good_side (c.events.component i) (c.a i h) (line_at c i h)) || over_sum (c.events.component i) (reference_of c i) (c.a i h) (time_total c i h))
