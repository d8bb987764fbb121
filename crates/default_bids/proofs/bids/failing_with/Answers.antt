use Rattle.default_bids.proofs.BidLaws.{tested_with}
use Rattle.default_bids.proofs.bids.failing_with.Goals as goal

pub returns : goal.returns
returns c =
    let a = c.args in
    rw (c.failing_hours.ensures, c.event_cells.ensures.0, c.tight_hours-tight.ensures, c.bid_of-bid.ensures)
    (tested_with a.case.format a.case.units.now a.case.events.now a.place a.correct a.i)
