use mathlib.Core.Path.{◌≡◌}
use Rattle.default_bids.specs.StageFigures.{tenths_at}
use Rattle.default_bids.proofs.MakeUpBounds.{tenths_bound}
use Rattle.default_bids.proofs.make_up.hour_tenths.Goals as goal

found : (c : goal.After-choose) →
    let a = c.args in
    c.choose.result ≡ tenths_at a.cells.now a.correct a.mitigated a.h
unfolding tenths_at
found c =
    rw (
      c.choose.ensures,
      c.bit_of.ensures,
      c.hour_make_up-tenths.ensures.0,
      c.cell_at-cell.ensures,
    )

pub returns : goal.returns
returns c =
    (found c, rw (found c) (tenths_bound c.args.cells.now c.args.correct c.args.mitigated c.args.h c.requires.2))
