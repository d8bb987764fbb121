use Prim.Native.Nat.{ℕ}
use native.Mathlib.Omega.{arith}
use mathlib.Core.Path.{◌≡◌, refl, ap, ◌∙◌}
use borrow.Author.Rules.{rules}
use borrow.Author.Tests.{tests}
use Rattle.std.proofs.lemmas.Iterator.{YieldsList-from_range}
use Rattle.binary.specs.Bounded.{all_to}
use Rattle.casefile.specs.Decode.{units_in}
use Rattle.limits.specs.Refusal.{unit_fine, units_fine}
use Rattle.binary.proofs.ChainLaws.{all_in_range}
use Rattle.record_check.proofs.unit_limits.units_fine.Goals as goal

pub returns : goal.returns
unfolding units_fine
returns c =
    let s = c.args in
    let count : c.unit_count.result ≡ (units_in s.case.format s.case.units.now).count = c.unit_count.ensures.0 in
    all_in_range (unit_fine s.case.format s.case.units.now) c.unit_count.result _ _ _ _ (YieldsList-from_range 0 _ _ refl (omega arith)) c.all.ensures.ran (λ x b q k. search (rules, tests))
    ∙ ap (λ (n : ℕ). all_to n (unit_fine s.case.format s.case.units.now)) count
