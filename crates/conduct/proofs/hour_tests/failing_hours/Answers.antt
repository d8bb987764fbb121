use mathlib.Core.Path.{◌∙◌}
use Rattle.conduct.proofs.ColumnLaws.{withheld_fails, dispatch_fails, bid_fails, fuel_fails, none_fails}
use Rattle.conduct.proofs.hour_tests.failing_hours.Goals as goal

pub returns-in-Withheld : goal.returns-in-Withheld
returns-in-Withheld c =
    c.withheld_hours.ensures ∙ withheld_fails _ _ _ _ c.amounts_of-column.ensures _ _ c.in-Withheld.is

pub returns-in-Dispatch : goal.returns-in-Dispatch
returns-in-Dispatch c =
    c.dispatch_hours.ensures ∙ dispatch_fails _ _ _ _ c.amounts_of-column-in-Dispatch.ensures _ _ c.in-Dispatch.is

pub returns-in-Fuel : goal.returns-in-Fuel
returns-in-Fuel c = c.sums_over.ensures ∙ fuel_fails _ _ _ _ c.in-Fuel.is

pub returns-in-Bid : goal.returns-in-Bid
returns-in-Bid c =
    c.bid_hours.ensures ∙ bid_fails _ _ _ _ c.amounts_of-column-in-Bid.ensures _ _ c.in-Bid.is

pub returns-in-NoTest : goal.returns-in-NoTest
returns-in-NoTest c = none_fails _ _ _ _ c.in-NoTest.is
