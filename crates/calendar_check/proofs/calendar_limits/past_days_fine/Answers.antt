use native.Mathlib.Omega.{arith}
use mathlib.Core.Path.{refl}
use borrow.Author.Rules.{rules}
use borrow.Author.Tests.{tests}
use Rattle.std.proofs.lemmas.Iterator.{YieldsList-from_range}
use Rattle.calendar.specs.Periods.{in_calendar}
use Rattle.casefile.specs.Decode.{past_in}
use Rattle.casefile.specs.StageRead.{entry_at, event_at}
use Rattle.binary.proofs.ChainLaws.{all_in_range}
use Rattle.calendar_check.proofs.calendar_limits.past_days_fine.Goals as goal

pub returns : goal.returns
unfolding entry_at event_at
returns c =
    let s = c.args in
    rw (← c.entry_count.ensures)
    (all_in_range (λ i. in_calendar ((past_in s.case.past.now).entry i).day) c.entry_count.result _ _ _ _ (YieldsList-from_range 0 _ _ refl (omega arith)) c.all.ensures.ran (λ x b q k. search (rules, tests)))
