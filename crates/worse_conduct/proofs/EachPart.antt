-- Each part of the promise rules a fall out: from the listing's row to a row of zeros there is no way.
use Prim.Native.Nat.{ℕ, ◌≤◌}
use mathlib.Core.Bool.{true, false}
use mathlib.Core.List.{◌++◌}
use mathlib.Core.Path.{◌≡◌, refl}
use native.Mathlib.Omega.{arith}
use lib.Dec.{lit<}
use Rattle.binary.specs.Bounded.{bit_of}
use Rattle.binary.specs.Bytes.{value_at, bytes_of}
use Rattle.binary.proofs.Implies.{true→T}
use Rattle.casefile.specs.declared.layout.Format.{Format}
use Rattle.settlement.specs.Settled.{Settled}
use Rattle.worse_conduct.specs.Promise.{NoSmaller}

-- one row, as far as its multiplier
unfoldable pub one_row : (flags multiplier penalty : ℕ) → Settled
one_row flags multiplier penalty =
    record {
      answer = record { number = 0; row_count = 1; penalties = penalty; make_ups = 0 };
      rows = bytes_of 8 flags ++ bytes_of 8 penalty ++ bytes_of 8 0 ++ bytes_of 1 multiplier;
    }

pub no_way_back : (format : Format) → NoSmaller format (one_row 1 2 200400) (one_row 0 0 0) → ⊥ × ⊥ × ⊥ × ⊥
unfolding one_row bit_of value_at bytes_of
no_way_back format claim =
    let flag : false ≡ true = claim.flags 0 0 (lit< tt) refl in
    let multiplier : 2 ≤ 0 = claim.multipliers 0 (lit< tt) in
    let penalty : 200400 ≤ 0 = claim.penalties 0 (lit< tt) in
    let total : 200400 ≤ 0 = claim.total in
    (absurd (true→T false flag), omega (arith, multiplier), omega (arith, penalty), omega (arith, total))
