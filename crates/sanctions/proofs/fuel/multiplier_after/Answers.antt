use Rattle.sanctions.specs.Penalties.{fuel_multiplier_after}
use Rattle.sanctions.proofs.fuel.multiplier_after.Goals as goal

pub returns-then-prior : goal.returns-then-prior
unfolding fuel_multiplier_after
returns-then-prior c = rw c.if-prior.true

pub returns-else-prior : goal.returns-else-prior
unfolding fuel_multiplier_after
returns-else-prior c = rw c.if-prior.false
