use Rattle.limits.proofs.RefusalLaws.{answered_is}
use Rattle.case_check.proofs.check.check.Goals as goal

pub returns : goal.returns
returns c = answered_is _ _ c.check_into.ensures.value
