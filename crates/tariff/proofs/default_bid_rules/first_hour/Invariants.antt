use mathlib.Core.Path.{◌≡◌}
use Rattle.binary.specs.Bounded.{bit_of, first_to}
use Rattle.tariff.proofs.default_bid_rules.first_hour.Given as goal

abbrev pub invariant-loop-h : goal.invariant-loop-h
invariant-loop-h l = l.first ≡ first_to l.h (bit_of l.hits)
