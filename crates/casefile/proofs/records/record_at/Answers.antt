use Prim.Native.Nat.{◌+◌, ◌*◌, ◌≤◌}
use borrow.Author.Rules.{rules}
use native.Mathlib.Nat.{add-sub_cancel_left}
use native.Mathlib.Omega.{arith}
use lib.ListN.{length, length-take, length-drop}
use Rattle.casefile.specs.Decode.{record_at}
use Rattle.casefile.proofs.RecordLaws.{record_end}
use Rattle.casefile.proofs.records.record_at.Goals as goal

ends : (c : goal.Start) → c.args.width * c.args.i + c.args.width ≤ length c.args.records.now
ends c = record_end c.args.width (length c.args.records.now) c.args.i c.requires

pub overflow_mul-at : goal.overflow_mul-at
unfolding record_at
overflow_mul-at c = let e = ends c in search rules

pub overflow_add-end : goal.overflow_add-end
unfolding record_at
overflow_add-end c = let e = ends c in search rules

pub slice_bounds-result-count : goal.slice_bounds-result-count
unfolding record_at
slice_bounds-result-count c = let e = ends c in search rules

pub slice_bounds-result-start : goal.slice_bounds-result-start
unfolding record_at
slice_bounds-result-start c = let e = ends c in search rules

pub slice_bounds-result-end : goal.slice_bounds-result-end
unfolding record_at
slice_bounds-result-end c = let e = ends c in search rules

pub returns : goal.returns
unfolding record_at
returns c =
    let ends : c.args.width * c.args.i + c.args.width ≤ length c.args.records.now = record_end c.args.width (length c.args.records.now) c.args.i c.requires in
    (rw add-sub_cancel_left, simp (add-sub_cancel_left, length-take, length-drop) (omega arith))
