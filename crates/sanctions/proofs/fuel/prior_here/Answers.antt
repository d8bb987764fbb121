use mathlib.Core.Path.{refl}
use native.Mathlib.Omega.{arith}
use borrow.Author.Rules.{rules}
use borrow.Author.Tests.{tests}
use Rattle.std.proofs.lemmas.Iterator.{YieldsList-from_range}
use Rattle.binary.proofs.ChainLaws.{any_in_range}
use Rattle.sanctions.specs.StageTables.{fuel_row_counts}
use Rattle.sanctions.proofs.fuel.prior_here.Goals as goal

pub returns : goal.returns
returns c =
    let a = c.args in
    any_in_range (fuel_row_counts a.case.format a.case.events.now a.groups.now a.penalties.now a.day a.group) a.i _ _ _ _ (YieldsList-from_range 0 _ _ refl (omega arith))
    c.any.ensures.ran (λ x b q k. search (rules, tests))
