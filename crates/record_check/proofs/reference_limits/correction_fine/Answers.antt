use mathlib.Core.Path.{◌≡◌, sym, ◌∙◌}
use lib.ListN.{length}
use Rattle.casefile.specs.Layout.{reference_width, most_references}
use Rattle.casefile.specs.Decode.{units_in}
use Rattle.limits.specs.Refusal.{size_fine, correction_fine}
use Rattle.limits.proofs.RangeLaws.{none_fine}
use Rattle.record_check.proofs.reference_limits.correction_fine.Goals as goal

pub returns-then-correction-eq0 : goal.returns-then-correction-eq0
unfolding correction_fine
returns-then-correction-eq0 c =
    let s = c.args in
    none_fine s.case.format (units_in s.case.format s.case.units.now) s.correction.now c.if-correction-eq0.true

pub references_fine-requires : goal.references_fine-requires
unfolding correction_fine
references_fine-requires c = c.requires

pub returns-then-size_fine : goal.returns-then-size_fine
unfolding correction_fine
returns-then-size_fine c =
    let sized : let s = c.args in
    c.size_fine.result ≡ size_fine (length s.correction.now) (reference_width s.case.format) most_references = rw (c.size_fine.ensures, c.widths_of-w.ensures.0) in
    let fine = sym sized ∙ c.if-size_fine.true in
    rw (c.references_fine.ensures, c.reference_numbers_fine-numbers.ensures, fine)

pub returns : goal.returns
unfolding correction_fine
returns c =
    let sized : let s = c.args in
    c.size_fine.result ≡ size_fine (length s.correction.now) (reference_width s.case.format) most_references = rw (c.size_fine.ensures, c.widths_of-w.ensures.0) in
    let small = sym sized ∙ c.if-size_fine.false in rw small
