use Rattle.tariff.specs.Comparisons.{comparisons_of}
use Rattle.tariff.proofs.comparisons.comparisons_of.Goals as goal

pub returns : goal.returns
unfolding comparisons_of
returns c = rw (c.first_failed.ensures, c.bit_where-eight.ensures.0, c.bit_where-four.ensures.0, c.bit_where-two.ensures.0, c.bit_where-one.ensures.0)
