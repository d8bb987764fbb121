use Prim.Native.Nat.{ℕ, ◌+◌, ◌*◌}
use mathlib.Core.Bool.{Bool, true, false, ◌&&◌}
use mathlib.Core.Logic.{inl, inr}
use mathlib.Core.Path.{◌≡◌, refl, ap}
use lib.Dec.{eqb, leb}
use borrow.Author.Rules.{rules}
use borrow.Author.Tests.{eqb-true, eqb-false, lt-leb}
use native.Mathlib.Omega.{arith}
use Rattle.binary.specs.Bytes.{value_at}
use Rattle.casefile.specs.Layout.{highest_number, number_limit}
use Rattle.casefile.specs.Decode.{record_at, old_number}
use Rattle.limits.specs.Refusal.{number_fine}
use Rattle.record_check.proofs.number_limits.number_fine.Goals as goal

-- one comparison for both: an old field that is not 0 is above the limit by itself
one-comparison : (old number : ℕ) → leb (number_limit * old + number) highest_number ≡ (eqb old 0 && leb number highest_number)
one-comparison old number = go (eqb old 0) refl
  where
    go : (t : Bool) → eqb old 0 ≡ t → leb (number_limit * old + number) highest_number ≡ (t && leb number highest_number)
    go true e =
        let z = eqb-true old 0 e in
        let same : number_limit * old + number ≡ number = omega arith in
        ap (λ (x : ℕ). leb x highest_number) same
    go false e = let z = eqb-false old 0 e in lt-leb (number_limit * old + number) highest_number (omega arith)

pub number_at-old_number-requires : goal.number_at-old_number-requires
unfolding number_fine old_number
number_at-old_number-requires c = (search rules, inl refl)

pub number_at-number-requires : goal.number_at-number-requires
unfolding number_fine old_number
number_at-number-requires c = (search rules, inr refl)

pub returns : goal.returns
unfolding number_fine old_number
returns c =
    let s = c.args in
    rw (c.number_at-number.ensures, c.number_at-old_number.ensures, c.record_at-record.ensures.0)
    (one-comparison (old_number s.width s.old s.records.now s.i) (value_at 4 (record_at s.width s.records.now s.i) s.at))
