use mathlib.Core.Path.{sym, ◌∙◌}
use Rattle.conduct.proofs.TimeLaws.{small_table, totals_of, totals_none}
use Rattle.conduct.proofs.time.time_totals.Goals as goal

pub hour_totals-requires : goal.hour_totals-requires
hour_totals-requires c =
    small_table _ _ _ _ _ _ c.requires.in_range.1 c.time_increases.ensures

pub returns-then-time_bid : goal.returns-then-time_bid
returns-then-time_bid c =
    totals_of _ _ _ _ _ _ (sym c.time_bid.ensures ∙ c.if-time_bid.true) c.time_increases.ensures
    c.hour_totals.ensures

pub returns : goal.returns
returns c =
    totals_none _ _ _ _ c.requires.bids_in_order c.requires.in_range.0 (sym c.time_bid.ensures ∙ c.if-time_bid.false)
