use mathlib.Core.Path.{refl}
use Rattle.event_check.specs.StageReading.{key_of}
use Rattle.event_check.proofs.event_limits.event_key.Goals as goal

pub returns : goal.returns
unfolding key_of
returns c = refl
