use Rattle.std.proofs.Common.{arith, ℕ, get_or, set, ◌≡◌, ◌<◌, length}
use Rattle.std.proofs.lemmas.List.{get_or-set_same, get_or-set_other}
use Rattle.binary.proofs.ListLaws.{fill_none, fill_more, up_to}
use Rattle.binary.proofs.bounded.fill_to.Goals as goal

pub loop-i-init : goal.loop-i-init
loop-i-init g c = record { so_far = λ f h. fill_none f c.args.list.now; each = λ i d l. absurd (omega arith) }

pub loop-i-preserved : goal.loop-i-preserved
loop-i-preserved g c =
    let v = c.loop-i.invariant in
    let room : c.loop-i.i < length c.loop-i.list = omega (arith, c.requires.in_range) in
    record {
      so_far = λ f h.
          let e : c.value.result ≡ f c.loop-i.i = h _ _ c.loop-i-test.true c.value.ensures in
          let room : c.loop-i.i < length c.args.list.now = omega (arith, c.requires.in_range) in
          rw (v.so_far f h, e) (fill_more f _ _ room);
      each = λ i d l.
          up_to (λ (j : ℕ). goal.F-post g c.args.value j (get_or (set c.loop-i.list c.loop-i.i c.value.result) j d)) c.loop-i.i i l
          (rw (get_or-set_same c.loop-i.list c.loop-i.i c.value.result d room) c.value.ensures)
          (λ s. rw (get_or-set_other c.loop-i.list c.loop-i.i i c.value.result d (λ t. omega arith)) (v.each i d s));
    }
