use mathlib.Core.Path.{◌≡◌}
use Rattle.binary.specs.Bounded.{bit_of, last_to}
use Rattle.tariff.proofs.default_bid_rules.last_hour.Given as goal

abbrev pub invariant-loop-h : goal.invariant-loop-h
invariant-loop-h l = l.last ≡ last_to l.h (bit_of l.hits)
