use Prim.Native.Nat.{ℕ, ◌+◌, ◌-◌}
use mathlib.Core.List.{List}
use mathlib.Core.Path.{◌≡◌}
use native.Mathlib.Nat.{add-sub_cancel_left}
use lib.ListN.{take, drop}
use Rattle.casefile.specs.Decode.{offset_of, length_of, section_of}
use Rattle.casefile.proofs.header.section.Goals as goal

stretch : (f : List ℕ) (k at n : ℕ) → at ≡ offset_of f k → n ≡ length_of f k → take (at + n - at) (drop at f) ≡ section_of f k
unfolding section_of
stretch f k at n e d = rw (add-sub_cancel_left, e, d)

pub returns : goal.returns
returns c = stretch _ _ _ _ c.offset_of-at.ensures c.length_of-n.ensures
