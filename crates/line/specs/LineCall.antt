-- The call that gives the line (docs/RULES.md, C20 and C23): 16 for any argument out of its range, also where the component does not
-- read it, else the line.
use Rattle.std.specs.Prelude.{ℕ, Bool, cond, ◌||◌, ◌≡◌, ltb}
use Rattle.tariff.specs.Ranges.{highest_component}
use Rattle.calls.specs.Answers.{Answer, refused, given}
use Rattle.calls.specs.OutOfRange.{bad_reference, bad_unit}
use Rattle.line.specs.BidLine.{line_of, IsLine}

unfoldable pub bad_line : (component r market average_price H : ℕ) → Bool
bad_line component r market average_price H =
    ltb highest_component component || bad_reference component r || bad_unit market average_price H

unfoldable pub line_answer : (component r market : ℕ) (tight : Bool) (average_price H : ℕ) → Answer
line_answer component r market tight average_price H =
    cond (bad_line component r market average_price H) (refused 16) (given (line_of component r market tight average_price H))

-- a figure that is given is the line, for all nine components alike
abbrev pub Promised : (component r market : ℕ) (tight : Bool) (average_price H : ℕ) → Answer → Type 0
Promised component r market tight average_price H answer =
    (l : ℕ) → answer ≡ given l → IsLine component r market tight average_price H l
