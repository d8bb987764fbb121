use borrow.Author.Tests.{eq-eqb, ne_eqb}
use Rattle.casefile.specs.Layout.{widths_of, first_widths, second_widths}
use Rattle.casefile.proofs.RecordLaws.{first_fits, second_fits}
use Rattle.casefile.proofs.layout.widths_of.Goals as goal

pub returns-then-format-eq-SECOND_VERSION : goal.returns-then-format-eq-SECOND_VERSION
unfolding widths_of first_widths second_widths
returns-then-format-eq-SECOND_VERSION c = (simp (eq-eqb _ _ c.if-format-eq-SECOND_VERSION.true), second_fits)

pub returns : goal.returns
unfolding widths_of first_widths second_widths
returns c = (simp (ne_eqb _ _ c.if-format-eq-SECOND_VERSION.false), first_fits)
