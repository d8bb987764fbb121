use native.Mathlib.Omega.{arith}
use Rattle.binary.proofs.WordLaws.{positive_lt, negative_le}
use Rattle.tariff.specs.DefaultBidRules.{excess}
use Rattle.tariff.proofs.default_bid_rules.excess.Goals as goal

pub overflow_cast-result : goal.overflow_cast-result
unfolding excess
overflow_cast-result c =
    let a = c.args in
    record {
      fits =
          omega (
            arith,
            positive_lt 32 a.x,
            negative_le 32 a.y (omega arith),
            c.saturating_sub.ensures,
            c.negative_part.ensures,
            c.positive_part.ensures,
          );
    }

pub returns : goal.returns
unfolding excess
returns c = rw (c.saturating_sub.ensures, c.negative_part-2.ensures, c.positive_part-2.ensures, c.negative_part.ensures, c.positive_part.ensures)
