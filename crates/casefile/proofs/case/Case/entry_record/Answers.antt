use Rattle.casefile.specs.Decode.{past_in}
use Rattle.casefile.proofs.case.Case.entry_record.Goals as goal

pub record_at-requires : goal.record_at-requires
unfolding past_in
record_at-requires c = c.requires

pub returns : goal.returns
unfolding past_in
returns c = c.record_at.ensures
