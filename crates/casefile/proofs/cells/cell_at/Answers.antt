use Prim.Native.Nat.{◌+◌, ◌*◌}
use native.Mathlib.Omega.{arith}
use Rattle.binary.proofs.ByteLaws.{value_take}
use Rattle.casefile.specs.Layout.{cell_width, most_hours}
use Rattle.casefile.specs.StageRead.{cell_of}
use Rattle.casefile.proofs.cells.cell_at.Goals as goal

pub returns : goal.returns
unfolding cell_of
returns c =
    let s = c.args in
    let at = cell_width * s.h in
    rw (
      value_take 4 (cell_width * most_hours) s.cells.now at (omega arith),
      value_take 4 (cell_width * most_hours) s.cells.now (at + 4) (omega arith),
      value_take 4 (cell_width * most_hours) s.cells.now (at + 8) (omega arith),
      c.load-3.ensures,
      c.load-2.ensures,
      c.load.ensures,
    )
