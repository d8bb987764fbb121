use native.Mathlib.Omega.{arith}
use Rattle.binary.specs.Bounded.{bit_of}
use Rattle.binary.proofs.BoundedLaws.{first_bound}
use Rattle.tariff.specs.DefaultBidRules.{span_mask, spanned}
use Rattle.tariff.proofs.default_bid_rules.span_mask.Goals as goal

pub run_end-requires : goal.run_end-requires
unfolding span_mask spanned
run_end-requires c = omega (arith, first_bound c.args.n (bit_of c.args.hits), c.first_hour-first.ensures)

pub returns : goal.returns
unfolding span_mask spanned
returns c = rw (c.hours_between.ensures, c.max-end.ensures, c.run_end.ensures, c.last_hour-last.ensures, c.first_hour-first.ensures)
