use native.Mathlib.Nat.{div-le_self}
use Rattle.casefile.specs.Decode.{units_in}
use Rattle.casefile.proofs.case.Case.unit_count.Goals as goal

pub returns : goal.returns
unfolding units_in
returns c = let e = c.widths_of-w.ensures.0 in (rw (c.count_of.ensures, e), rw c.count_of.ensures (div-le_self _ _))
