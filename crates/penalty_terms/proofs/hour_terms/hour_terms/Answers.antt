use Rattle.std.proofs.Common.{rules}
use Rattle.penalty_terms.specs.StageTerms.{term_in}
use Rattle.penalty_terms.proofs.hour_terms.hour_terms.Goals as goal

pub returns : goal.returns
returns c =
    let a = c.args in (
      c.list_to.ensures.value (term_in a.kind a.cells.now a.mask) (λ h r l p. search rules),
      λ h l. let p = c.list_to.ensures.each h 0 l in search rules,
    )
