use Rattle.std.proofs.Common.{arith, ℕ, ◌≡◌, ◌+◌, ◌*◌, ◌≤◌, ◌<◌}
use native.Mathlib.Nat.{mul-le-mul_right}
use native.Mathlib.Numerals.{add-one}
use Rattle.binary.proofs.BoundedLaws.{sum_none, sum_more}
use Rattle.binary.proofs.bounded.sum_to.Goals as goal

turn : (i most s x : ℕ) → s ≤ i * most → x ≤ most → s + x ≤ (i + 1) * most
turn i most s x h k = let e : (i + 1) * most ≡ i * most + most = omega arith in omega arith

room : (i n most : ℕ) → i < n → (i + 1) * most ≤ n * most
room i n most l = rw add-one (mul-le-mul_right most l)

pub loop-i-init : goal.loop-i-init
loop-i-init g c = record { small = λ most h. omega arith; so_far = λ f h. sum_none f }

pub overflow_add-sum : goal.overflow_add-sum
overflow_add-sum g c =
    let r = c.requires.fits in
    let t = turn c.loop-i.i r.0 _ _ (c.loop-i.invariant.small r.0 r.1) (r.1 _ _ c.loop-i-test.true c.term-sum.ensures) in
    let n = room c.loop-i.i c.args.n r.0 c.loop-i-test.true in
    record { fits = omega (arith, t, n, r.2) }

pub loop-i-preserved : goal.loop-i-preserved
loop-i-preserved g c = record {
  small = λ most h. turn _ _ _ _ (c.loop-i.invariant.small most h) (h _ _ c.loop-i-test.true c.term-sum.ensures);
  so_far = λ f h.
      let e : c.term-sum.result ≡ f c.loop-i.i = h _ _ c.loop-i-test.true c.term-sum.ensures in
      rw (sum_more, c.loop-i.invariant.so_far f h, e);
}

pub returns : goal.returns
returns g c =
    let e : c.args.n ≡ c.loop-i.i = omega arith in
    let v = c.loop-i.invariant in
    record { value = λ f h. rw (e, v.so_far f h); within = λ most h. rw e (v.small most h) }
