use Rattle.sanctions.specs.StageTables.{energy_of}
use Rattle.subtotal.proofs.subtotal_call.part_over.Goals as goal

pub event_energy-part-requires : goal.event_energy-part-requires
unfolding energy_of
event_energy-part-requires c = c.requires

pub returns : goal.returns
unfolding energy_of
returns c = rw (c.word_of.ensures, c.event_energy-part.ensures)
