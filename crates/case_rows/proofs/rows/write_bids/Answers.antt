use mathlib.Core.Path.{◌≡◌, ◌∙◌, refl}
use native.Mathlib.Omega.{arith}
use lib.Seq.{length-sets}
use Rattle.binary.specs.Lists.{join_to}
use Rattle.casefile.specs.Layout.{most_hours}
use Rattle.case_rows.specs.StageRow.{word_of, words_of}
use Rattle.case_rows.proofs.WriteLaws.{words_more}
use Rattle.case_rows.proofs.rows.write_bids.Goals as goal

pub loop-h-init : goal.loop-h-init
unfolding join_to
loop-h-init c = refl

pub loop-h-preserved : goal.loop-h-preserved
unfolding word_of
loop-h-preserved c =
    c.store.ensures ∙ rw c.loop-h.invariant (words_more c.args.row.now c.args.bids c.loop-h.h)

pub returns : goal.returns
unfolding words_of
returns c =
    let l = c.loop-h in
    let e : l.h ≡ most_hours = omega arith in
    rw (← e) l.invariant

pub store-requires : goal.store-requires
store-requires c = rw (c.loop-h.invariant, length-sets) (omega arith)

pub shape_of-row : goal.shape_of-row
shape_of-row c = rw (c.loop-h.invariant, length-sets)
