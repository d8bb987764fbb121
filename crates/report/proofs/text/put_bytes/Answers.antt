use Rattle.std.proofs.Common.{arith, ◌≡◌, ◌+◌, ◌-◌, length}
use mathlib.Core.List.{append_assoc}
use mathlib.Core.Path.{refl}
use lib.Seq.{drop-drop}
use Rattle.std.proofs.lemmas.List.Edits.{sets-eq}
use Rattle.report.proofs.text.put_bytes.Goals as goal

pub returns : goal.returns
returns c =
    let a = c.args in
    let e : a.at + length a.s.now - a.at ≡ length a.s.now = omega arith in
    record { place = refl; content = rw (e, c.copy_from_slice.ensures.after, sets-eq a.s.now a.out.now a.at c.requires, drop-drop, append_assoc) }
