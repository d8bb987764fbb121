use native.Mathlib.Omega.{arith}
use mathlib.Core.Path.{refl}
use borrow.Author.Rules.{rules}
use borrow.Author.Tests.{tests}
use Rattle.std.proofs.lemmas.Iterator.{YieldsList-from_range}
use Rattle.binary.specs.Bytes.{value_at}
use Rattle.casefile.specs.Decode.{record_at, old_number}
use Rattle.limits.specs.Refusal.{number_fine}
use Rattle.binary.proofs.ChainLaws.{all_in_range}
use Rattle.record_check.proofs.number_limits.all_numbers_fine.Goals as goal

pub returns : goal.returns
returns c =
    let s = c.args in
    rw (← c.count_of.ensures)
    (all_in_range (number_fine (old_number s.width s.old s.records.now) (λ k. value_at 4 (record_at s.width s.records.now k) s.at)) c.count_of.result _ _ _ _
    (YieldsList-from_range 0 _ _ refl (omega arith)) c.all.ensures.ran (λ x b q k. search (rules, tests)))
