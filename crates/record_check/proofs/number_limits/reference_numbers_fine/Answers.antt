use borrow.Author.Rules.{rules}
use Rattle.casefile.specs.Layout.{first_widths}
use Rattle.casefile.specs.Decode.{references_in}
use Rattle.casefile.proofs.RecordLaws.{fits}
use Rattle.limits.specs.Refusal.{reference_numbers_fine}
use Rattle.record_check.proofs.number_limits.reference_numbers_fine.Goals as goal

pub record_numbers_fine-requires : goal.record_numbers_fine-requires
unfolding reference_numbers_fine references_in first_widths
record_numbers_fine-requires c = rw c.widths_of-w.ensures.0 (let f = fits c.args.format in search rules)

pub returns : goal.returns
unfolding reference_numbers_fine references_in first_widths
returns c = rw (c.record_numbers_fine.ensures, c.widths_of-w.ensures.0)
