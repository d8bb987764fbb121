use Rattle.std.proofs.Common.{arith, ℕ, ◌≡◌, ◌+◌, ◌^◌, ◌≤◌, ◌<◌}
use native.Mathlib.Nat.{pow-suc}
use native.Mathlib.Numerals.{add-one}
use mathlib.Core.Path.{refl}
use lib.Pow.{pow_mono}
use Rattle.binary.proofs.MaskLaws.{mask_none, mask_more, cond_le}
use Rattle.binary.proofs.bounded.mask_to.Goals as goal

below_next : (i mask weight x : ℕ) → weight ≡ 2 ^ i → mask < 2 ^ i → x ≤ weight → mask + x < 2 ^ (i + 1)
below_next i mask weight x w m l = rw (add-one, pow-suc 2 i) (omega arith)

-- so far below a bound of 31 bits
room : (i n : ℕ) → i < n → n ≤ 31 → 2 ^ i ≤ 1073741824
room i n l k = pow_mono {j = 30} (omega arith)

pub loop-i-init : goal.loop-i-init
loop-i-init g c = record { doubled = refl; below = omega arith; so_far = λ p h. mask_none p }

pub overflow_mul-weight : goal.overflow_mul-weight
overflow_mul-weight g c = let v = c.loop-i.invariant in let r : 2 ^ c.loop-i.i ≤ 1073741824 = room _ _ c.loop-i-test.true c.requires.fits in record { fits = omega (arith, v.doubled) }

pub loop-i-preserved : goal.loop-i-preserved
loop-i-preserved g c = let v = c.loop-i.invariant in record {
  doubled = rw (add-one, pow-suc 2 c.loop-i.i, v.doubled);
  below = below_next _ _ _ _ v.doubled v.below (rw c.choose-mask.ensures (cond_le _ _));
  so_far = λ p h.
      let e : c.test.result ≡ p c.loop-i.i = h _ _ c.loop-i-test.true c.test.ensures in
      rw (mask_more, c.choose-mask.ensures, v.so_far p h, e, v.doubled);
}
