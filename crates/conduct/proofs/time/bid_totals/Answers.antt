use mathlib.Core.Path.{sym, ◌∙◌}
use Rattle.conduct.proofs.TimeLaws.{totals_kept}
use Rattle.conduct.proofs.time.bid_totals.Goals as goal

pub returns-then-same_totals : goal.returns-then-same_totals
returns-then-same_totals c = totals_kept _ _ _ _ (sym c.same_totals.ensures ∙ c.if-same_totals.true) c.requires.has_row
