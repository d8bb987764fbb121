use Rattle.limits.specs.Refusal.{sizes_fine}
use Rattle.limits.proofs.header_limits.sizes_fine.Goals as goal

pub returns : goal.returns
unfolding sizes_fine
returns c =
    rw (
      c.size_fine-4.ensures,
      c.size_fine-3.ensures,
      c.size_fine-2.ensures,
      c.size_fine.ensures,
      c.widths_of-w.ensures.0,
      c.format_of.ensures,
      c.length_of-events.ensures,
      c.length_of-past.ensures,
      c.length_of-references.ensures,
      c.length_of-units.ensures,
    )
