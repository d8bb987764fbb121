use Rattle.std.proofs.Common.{rules, ◌≡◌}
use mathlib.Core.Path.{◌∙◌}
use Rattle.binary.specs.Lists.{list_to}
use Rattle.casefile.specs.Layout.{most_hours}
use Rattle.casefile.specs.StageRead.{event_at}
use Rattle.default_bids.proofs.BidLaws.{held_in, held_in_is}
use Rattle.default_bids.proofs.bids.held_bids.Goals as goal

pub returns : goal.returns
unfolding held_in event_at
returns c =
    let held = held_in c.event_at-event.result.component c.event_cells-cells.result.now c.args.level c.args.held in
    let e : c.list_to.result ≡ list_to most_hours held = c.list_to.ensures.value held (λ h r l p. search rules) in
    (rw (c.event_cells-cells.ensures.0, c.event_at-event.ensures) at e) ∙ held_in_is _ _ _ _ _
