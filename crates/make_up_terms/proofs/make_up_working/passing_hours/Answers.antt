use Rattle.std.proofs.Common.{rules}
use Rattle.make_up_terms.specs.StageMakeUp.{restored_in}
use Rattle.make_up_terms.proofs.make_up_working.passing_hours.Goals as goal

pub returns : goal.returns
unfolding restored_in
returns c = c.mask_to.ensures.value (restored_in c.args.mitigated c.args.failing) (λ h r l p. search rules)
