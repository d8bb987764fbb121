use Prim.Native.Nat.{ℕ}
use native.Mathlib.Omega.{arith}
use mathlib.Core.Path.{◌≡◌, refl, ap, ◌∙◌}
use borrow.Author.Rules.{rules}
use borrow.Author.Tests.{tests}
use Rattle.std.proofs.lemmas.Iterator.{YieldsList-from_range}
use Rattle.binary.specs.Bounded.{any_to}
use Rattle.binary.proofs.ChainLaws.{any_in_range}
use Rattle.casefile.specs.Decode.{past_in}
use Rattle.sanctions.specs.StageTables.{fuel_entry_counts}
use Rattle.sanctions.proofs.fuel.prior_past.Goals as goal

pub returns : goal.returns
returns c =
    let a = c.args in
    let count : c.entry_count.result ≡ (past_in a.case.past.now).count = c.entry_count.ensures in
    any_in_range (fuel_entry_counts a.case.past.now a.day a.group) c.entry_count.result _ _ _ _ (YieldsList-from_range 0 _ _ refl (omega arith))
    c.any.ensures.ran (λ x b q k. search (rules, tests))
    ∙ ap (λ (n : ℕ). any_to n (fuel_entry_counts a.case.past.now a.day a.group)) count
