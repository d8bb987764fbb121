use Prim.Native.Nat.{ℕ, suc, ◌+◌, ◌-◌, ◌/◌, ◌%◌, ◌<◌}
use mathlib.Core.Path.{◌≡◌}
use mathlib.Core.List.{List}
use native.Mathlib.Omega.{arith}
use lib.ListN.{set, length-set}
use lib.Seq.{sets}
use Rattle.binary.specs.Bytes.{bytes_of}
use Rattle.binary.proofs.bytes.store.Goals as goal

turn : (s goal : List ℕ) (at count k rest : ℕ) → k < count → sets s (at + k) (bytes_of (count - k) rest) ≡ goal
    → sets (set s (at + k) (rest % 256)) (at + (k + 1)) (bytes_of (count - (k + 1)) (rest / 256)) ≡ goal
unfolding bytes_of
turn s goal at count k rest l inv =
    let more : count - k ≡ suc (count - (k + 1)) = omega arith in
    let next : at + (k + 1) ≡ suc (at + k) = omega arith in
    rw next (rw more at inv)

pub loop-k-preserved : goal.loop-k-preserved
loop-k-preserved g c =
    let inv = c.loop-k.invariant in
    (simp length-set (omega arith), turn _ _ _ _ _ _ (rw c.WIDTH-k-end.ensures at c.loop-k-test.true) inv.1)

pub returns : goal.returns
unfolding bytes_of
returns g c =
    let l = c.loop-k in
    let none : g.N.LittleEndian.WIDTH - l.k ≡ 0 = omega arith in
    rw (none, c.wide-rest.ensures) at l.invariant.1
