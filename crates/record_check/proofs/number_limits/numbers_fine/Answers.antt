use mathlib.Core.Path.{◌≡◌, sym, ◌∙◌}
use borrow.Author.Rules.{rules}
use Rattle.casefile.specs.Layout.{first_widths}
use Rattle.casefile.specs.Decode.{units_in, events_in}
use Rattle.casefile.proofs.RecordLaws.{fits}
use Rattle.limits.specs.Refusal.{unit_numbers_fine, event_numbers_fine, numbers_fine}
use Rattle.record_check.proofs.number_limits.numbers_fine.Goals as goal

pub record_numbers_fine-requires : goal.record_numbers_fine-requires
unfolding event_numbers_fine numbers_fine events_in first_widths
record_numbers_fine-requires c = rw c.widths_of-w.ensures.0 (let f = fits c.args.case.format in search rules)

pub returns-then-not-record_numbers_fine : goal.returns-then-not-record_numbers_fine
unfolding event_numbers_fine numbers_fine events_in first_widths unit_numbers_fine units_in
returns-then-not-record_numbers_fine c =
    let of-units : let s = c.args in
    c.record_numbers_fine.result ≡ unit_numbers_fine s.case.format s.case.units.now = rw (c.record_numbers_fine.ensures, c.widths_of-w.ensures.0) in
    rw (sym of-units ∙ c.if-not-record_numbers_fine.true)

pub returns-then-not-reference_numbers_fine : goal.returns-then-not-reference_numbers_fine
unfolding event_numbers_fine numbers_fine events_in first_widths unit_numbers_fine units_in
returns-then-not-reference_numbers_fine c =
    let of-units : let s = c.args in
    c.record_numbers_fine.result ≡ unit_numbers_fine s.case.format s.case.units.now = rw (c.record_numbers_fine.ensures, c.widths_of-w.ensures.0) in
    rw (
      sym of-units ∙ c.if-not-record_numbers_fine.false,
      sym c.reference_numbers_fine.ensures ∙ c.if-not-reference_numbers_fine.true,
    )

pub record_numbers_fine-requires-2 : goal.record_numbers_fine-requires-2
unfolding event_numbers_fine numbers_fine events_in first_widths
record_numbers_fine-requires-2 c =
    rw c.widths_of-w.ensures.0
    (let f = fits c.args.case.format in search rules)

pub returns : goal.returns
unfolding event_numbers_fine numbers_fine events_in first_widths unit_numbers_fine units_in
returns c =
    let of-units : let s = c.args in
    c.record_numbers_fine.result ≡ unit_numbers_fine s.case.format s.case.units.now = rw (c.record_numbers_fine.ensures, c.widths_of-w.ensures.0) in
    rw (
      sym of-units ∙ c.if-not-record_numbers_fine.false,
      sym c.reference_numbers_fine.ensures ∙ c.if-not-reference_numbers_fine.false,
      c.record_numbers_fine-2.ensures,
      c.widths_of-w.ensures.0,
    )
