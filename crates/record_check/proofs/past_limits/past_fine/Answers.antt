use Prim.Native.Nat.{ℕ}
use native.Mathlib.Omega.{arith}
use mathlib.Core.Path.{◌≡◌, refl, ap, ◌∙◌}
use borrow.Author.Rules.{rules}
use borrow.Author.Tests.{tests}
use Rattle.std.proofs.lemmas.Iterator.{YieldsList-from_range}
use Rattle.binary.specs.Bounded.{all_to}
use Rattle.casefile.specs.Decode.{past_in}
use Rattle.limits.specs.Refusal.{entry_fine, past_fine}
use Rattle.binary.proofs.ChainLaws.{all_in_range}
use Rattle.record_check.proofs.past_limits.past_fine.Goals as goal

pub returns : goal.returns
unfolding past_fine
returns c =
    let s = c.args in
    let count : c.entry_count.result ≡ (past_in s.case.past.now).count = c.entry_count.ensures in
    all_in_range (entry_fine s.case.past.now) c.entry_count.result _ _ _ _ (YieldsList-from_range 0 _ _ refl (omega arith)) c.all.ensures.ran (λ x b q k. search (rules, tests))
    ∙ ap (λ (n : ℕ). all_to n (entry_fine s.case.past.now)) count
