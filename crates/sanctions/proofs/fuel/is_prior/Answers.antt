use Rattle.casefile.specs.StageRead.{event_at}
use Rattle.tariff.specs.SanctionRules.{fuel_day_counts}
use Rattle.sanctions.specs.StageTables.{fuel_row_counts}
use Rattle.sanctions.proofs.fuel.is_prior.Goals as goal

pub returns : goal.returns
unfolding event_at fuel_row_counts fuel_day_counts
returns c = rw (c.in_window-near.ensures, c.event_at-event.ensures, ← c.requires.2)
