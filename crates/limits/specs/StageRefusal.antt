-- The refusal in the stages of the code: each stage's number, or what follows where it breaks no limit.
use Rattle.std.specs.Prelude.{ℕ, Bool, List}
use Rattle.binary.specs.Bounded.{all_to}
use Rattle.calendar.specs.Periods.{has_period}
use Rattle.casefile.specs.declared.layout.Format.{Format}
use Rattle.casefile.specs.Case.{Events}
use Rattle.limits.specs.Refusal.{header_limits, record_limits, field_limits, found_limits, first_broken}

unfoldable pub header_refusal : (file : List ℕ) (next : ℕ) → ℕ
header_refusal f next = first_broken (header_limits f) next

unfoldable pub records_refusal : Format → (units references correction past events : List ℕ) (next : ℕ) → ℕ
records_refusal format units references correction past events next = first_broken (record_limits format units references correction past events) next

unfoldable pub fields_refusal : Format → (past events : List ℕ) (next : ℕ) → ℕ
fields_refusal format past events next = first_broken (field_limits format past events) next

unfoldable pub found_refusal : Format → (units references correct events : List ℕ) (rows_length : ℕ) → ℕ
found_refusal format units references correct events rows_length = first_broken (found_limits format units references correct events rows_length) 0

-- 18 and 19 of each event at once
unfoldable pub events_in_calendar : Events → Bool
events_in_calendar e = all_to e.count (λ i. has_period (e.day i) (e.period i))
