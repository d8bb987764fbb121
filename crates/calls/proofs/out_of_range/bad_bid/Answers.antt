use Rattle.calls.specs.OutOfRange.{bad_bid}
use Rattle.calls.proofs.out_of_range.bad_bid.Goals as goal

pub returns : goal.returns
unfolding bad_bid
returns c = rw c.bid_in_range.ensures
