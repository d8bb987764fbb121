use Rattle.limits.specs.Refusal.{pairs_fine}
use Rattle.limits.proofs.header_limits.pairs_fine.Goals as goal

pub returns : goal.returns
unfolding pairs_fine
returns c =
    rw (
      c.length_of-events_length.ensures,
      c.offset_of-events.ensures,
      c.length_of-past_length.ensures,
      c.offset_of-past.ensures,
      c.length_of-references_length.ensures,
      c.offset_of-references.ensures,
      c.length_of-units_length.ensures,
      c.offset_of-units.ensures,
    )
