use Rattle.casefile.specs.Decode.{past_in, violation_in}
use Rattle.casefile.specs.StageRead.{entry_at}
use Rattle.casefile.proofs.case.Case.entry_at.Goals as goal

pub returns : goal.returns
unfolding past_in violation_in entry_at
returns c = rw (c.load-5.ensures, c.load-4.ensures, c.load-3.ensures, c.load-2.ensures, c.load.ensures, c.entry_record-entry.ensures.0)
