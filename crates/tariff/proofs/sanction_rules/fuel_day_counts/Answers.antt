use Rattle.tariff.specs.SanctionRules.{fuel_day_counts}
use Rattle.tariff.proofs.sanction_rules.fuel_day_counts.Goals as goal

pub returns : goal.returns
unfolding fuel_day_counts
returns c = rw (c.in_window.ensures, c.window_start.ensures)
