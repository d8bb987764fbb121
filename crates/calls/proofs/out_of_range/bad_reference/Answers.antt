use Rattle.calls.specs.OutOfRange.{bad_reference}
use Rattle.calls.proofs.out_of_range.bad_reference.Goals as goal

pub returns : goal.returns
unfolding bad_reference
returns c = rw c.reference_in_range.ensures
