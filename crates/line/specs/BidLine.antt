-- The line of a bid's conduct test (docs/RULES.md, C20 and C22): the highest bid in range that passes, of component 8 the lowest.
use Rattle.std.specs.Prelude.{ℕ, ◌+◌, min, Bool, true, false, cond, not, ◌≡◌, leb, eqb}
use Rattle.binary.specs.Word.{positive_part, negative_part}
use Rattle.tariff.specs.ConductTests.{bid_test}
use Rattle.tariff.specs.Ranges.{highest_price_bid, highest_other_bid, bid_in_range}
use Rattle.line.specs.OpenLine.{open_line}

-- the highest bid in range
abbrev pub highest_bid : (component : ℕ) → ℕ
highest_bid component = cond (leb component 2) highest_price_bid highest_other_bid

unfoldable pub line_of : (component r market : ℕ) (tight : Bool) (average_price H : ℕ) → ℕ
line_of component r market tight average_price H = min (open_line component r market tight average_price H) (highest_bid component)

-- the value of word x is at most that of word y, with their signs
unfoldable pub no_higher : (x y : ℕ) → Bool
no_higher x y = leb (positive_part 32 x + negative_part 32 y) (positive_part 32 y + negative_part 32 x)

-- a bid is on the good side of a line: not above it, of component 8 not below it
unfoldable pub good_side : (component a l : ℕ) → Bool
good_side component a l = cond (eqb component 8) (no_higher l a) (no_higher a l)

-- l is the line: a bid in range that passes, and of all bids in range just those on its good side pass; total 0 is the single test
pub record IsLine (component r market : ℕ) (tight : Bool) (average_price H l : ℕ) : Type 0 where
  pub in_range : bid_in_range component l ≡ true
  pub passes : bid_test component r l market tight average_price H 0 ≡ false
  pub splits : (a : ℕ) → bid_in_range component a ≡ true
      → bid_test component r a market tight average_price H 0 ≡ not (good_side component a l)
