use mathlib.Core.Path.{◌∙◌, sym}
use Rattle.tariff.specs.Comparisons.{first_failed}
use Rattle.tariff.proofs.comparisons.first_failed.Goals as goal

pub returns-then-exceeds : goal.returns-then-exceeds
unfolding first_failed
returns-then-exceeds c = rw (sym c.exceeds.ensures ∙ c.if-exceeds.true)

pub returns-then-exceeds-2 : goal.returns-then-exceeds-2
unfolding first_failed
returns-then-exceeds-2 c = rw (sym c.exceeds-2.ensures ∙ c.if-exceeds-2.true, sym c.exceeds.ensures ∙ c.if-exceeds.false)

pub returns-then-exceeds-3 : goal.returns-then-exceeds-3
unfolding first_failed
returns-then-exceeds-3 c = rw (sym c.exceeds-3.ensures ∙ c.if-exceeds-3.true, sym c.exceeds-2.ensures ∙ c.if-exceeds-2.false, sym c.exceeds.ensures ∙ c.if-exceeds.false)

pub returns-then-exceeds-4 : goal.returns-then-exceeds-4
unfolding first_failed
returns-then-exceeds-4 c = rw (sym c.exceeds-4.ensures ∙ c.if-exceeds-4.true, sym c.exceeds-3.ensures ∙ c.if-exceeds-3.false, sym c.exceeds-2.ensures ∙ c.if-exceeds-2.false, sym c.exceeds.ensures ∙ c.if-exceeds.false)

pub returns : goal.returns
unfolding first_failed
returns c = rw (sym c.exceeds-4.ensures ∙ c.if-exceeds-4.false, sym c.exceeds-3.ensures ∙ c.if-exceeds-3.false, sym c.exceeds-2.ensures ∙ c.if-exceeds-2.false, sym c.exceeds.ensures ∙ c.if-exceeds.false)
