use Rattle.casefile.specs.StageRead.{unit_at}
use Rattle.limits.specs.Refusal.{unit_fine, rises}
use Rattle.record_check.proofs.unit_limits.unit_fine.Goals as goal

pub returns : goal.returns
unfolding unit_at unit_fine rises
returns c = rw (c.unit_number-last.ensures, c.place_before.ensures, c.unit_spare_fine-spare.ensures, c.unit_fields_fine-fields.ensures, c.unit_at-unit.ensures)
