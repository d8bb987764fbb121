-- What a conduct test reads of an event beside its hours, and the hours that fail it.
use Rattle.std.specs.Prelude.{ℕ, ◌≤◌, ◌<◌, Bool, false, cond, List, ltb, eqb, get_or}
use Rattle.binary.specs.Bounded.{bit_of}
use Rattle.tariff.specs.ConductTests.{withheld_test, dispatch_test, bid_test}
use Rattle.tariff.specs.StageSums.{highest_sum}
use Rattle.casefile.specs.Layout.{most_hours}
use Rattle.casefile.specs.Case.{Units, Events}
use Rattle.casefile.specs.StageRead.{cell_of}
use Rattle.hour_masks.specs.declared.bid_hours.Bid.{Bid}
use Rattle.conduct.specs.declared.hour_tests.ConductTest.{ConductTest}
use Rattle.conduct.specs.declared.hour_tests.ConductTest.TheVariants as test

-- what the test of a bid reads, its unit at that place and its reference level at hand
unfoldable pub bid_of : Units → Events → (place level i : ℕ) → Bid
bid_of u e place level i =
    record {
      component = e.component i;
      reference = level;
      market = e.market i;
      average_price = u.average_price place;
      constrained_hours = u.constrained_hours place;
    }

-- the test of event i, by its kind; kind 1 alone reads G
unfoldable pub test_of : Units → Events → (place level G i : ℕ) → ConductTest
test_of u e place level G i =
    cond (eqb (e.kind i) 1) (test.Withheld (record { capability = u.capability place; group_capability = G }))
    (cond (eqb (e.kind i) 2) (test.Dispatch (u.rate place))
    (cond (eqb (e.kind i) 3) test.Fuel
    (cond (eqb (e.kind i) 4) (test.Bid (bid_of u e place level i)) test.NoTest)))

-- the tight hours of event i: P where the unit's area is 1
unfoldable pub tight_hours : Units → Events → (place i : ℕ) → ℕ
tight_hours u e place i = cond (eqb (u.area place) 1) (e.P i) 0

-- sum is S for kinds 1 and 2, the events that have the hour for kind 3, and the time total for kind 4
unfoldable pub fails_in : ConductTest → (a sum : ℕ) → (tight : Bool) → Bool
fails_in (test.Withheld w) a sum tight = withheld_test a w.capability sum w.group_capability tight
fails_in (test.Dispatch rate) a sum tight = dispatch_test a rate sum tight
fails_in test.Fuel a sum tight = ltb 0 sum
fails_in (test.Bid bid) a sum tight =
    bid_test bid.component bid.reference a bid.market tight bid.average_price bid.constrained_hours sum
fails_in test.NoTest a sum tight = false

-- a of hour h
abbrev pub amount_of : (cells : List ℕ) (h : ℕ) → ℕ
amount_of cells h = (cell_of cells h).a

unfoldable pub fails_at : ConductTest → (tight : ℕ) → (cells sums : List ℕ) → (h : ℕ) → Bool
fails_at t tight cells sums h = fails_in t (amount_of cells h) (get_or sums h 0) (bit_of tight h)

-- a row of sums, none of them above the highest
abbrev pub SmallRow : (row : List ℕ) → Type 0
SmallRow row = (h : ℕ) → h < most_hours → get_or row h 0 ≤ highest_sum
