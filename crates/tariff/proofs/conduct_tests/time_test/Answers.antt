use mathlib.Core.Path.{refl}
use Rattle.tariff.specs.ConductTests.{time_test}
use Rattle.tariff.proofs.conduct_tests.time_test.Goals as goal

pub returns : goal.returns
unfolding time_test
returns c = refl
