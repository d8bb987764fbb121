-- The invariant: with the bytes of the rest stored from here on, the slice is what is asked.
use Prim.Native.Nat.{◌+◌, ◌-◌}
use mathlib.Core.Path.{◌≡◌}
use lib.ListN.{length}
use lib.Seq.{sets}
use Rattle.binary.specs.Bytes.{bytes_of}
use Rattle.binary.proofs.bytes.store.Given as goal

abbrev pub invariant-loop-k : goal.invariant-loop-k
invariant-loop-k g l =
    (length l.s ≡ length l.initial.s) × (sets l.s (l.at + l.k) (bytes_of (g.N.LittleEndian.WIDTH - l.k) l.rest) ≡ sets l.initial.s l.at (bytes_of g.N.LittleEndian.WIDTH l.initial.rest))
