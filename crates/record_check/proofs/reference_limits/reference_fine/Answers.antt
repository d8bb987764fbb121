use Rattle.casefile.specs.StageRead.{reference_at}
use Rattle.casefile.specs.Lookup.{reference_key}
use Rattle.limits.specs.StageLookup.{reference_fine_where}
use Rattle.limits.specs.Refusal.{rises}
use Rattle.record_check.proofs.reference_limits.reference_fine.Goals as goal

pub returns : goal.returns
unfolding reference_at reference_fine_where reference_key rises
returns c = rw (c.reference_key-key.ensures, c.reference_key-last.ensures, c.place_before.ensures, c.reference_spare_fine-spare.ensures, c.reference_fields_fine-fields.ensures, c.reference_at-reference.ensures)
