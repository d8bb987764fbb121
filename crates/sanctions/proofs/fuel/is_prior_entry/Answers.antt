use Rattle.casefile.specs.StageRead.{entry_at}
use Rattle.tariff.specs.SanctionRules.{fuel_day_counts}
use Rattle.sanctions.specs.Penalties.{counts_fuel}
use Rattle.sanctions.specs.StageTables.{fuel_entry_counts}
use Rattle.sanctions.proofs.fuel.is_prior_entry.Goals as goal

pub returns : goal.returns
unfolding entry_at counts_fuel fuel_entry_counts fuel_day_counts
returns c = rw (c.in_window-near.ensures, c.entry_at-entry.ensures, ← c.requires.1)
