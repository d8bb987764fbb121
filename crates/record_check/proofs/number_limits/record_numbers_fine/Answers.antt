use mathlib.Core.Path.{◌≡◌, sym, ◌∙◌}
use native.Mathlib.Omega.{arith}
use Rattle.casefile.specs.Layout.{number_width}
use Rattle.casefile.proofs.RecordLaws.{long_number}
use Rattle.limits.specs.Refusal.{record_numbers_fine}
use Rattle.record_check.proofs.number_limits.record_numbers_fine.Goals as goal

pub returns-then-old_numbers : goal.returns-then-old_numbers
unfolding record_numbers_fine
returns-then-old_numbers c = rw (sym c.old_numbers.ensures ∙ c.if-old_numbers.true)

pub all_numbers_fine-requires : goal.all_numbers_fine-requires
all_numbers_fine-requires c =
    let long : number_width c.args.format ≡ 4 = long_number _ (sym c.old_numbers.ensures ∙ c.if-old_numbers.false) in
    (c.requires.0, c.requires.1, omega (arith, c.requires.2))

pub returns : goal.returns
unfolding record_numbers_fine
returns c =
    let long : number_width c.args.format ≡ 4 = long_number _ (sym c.old_numbers.ensures ∙ c.if-old_numbers.false) in
    rw (long, c.all_numbers_fine.ensures)
