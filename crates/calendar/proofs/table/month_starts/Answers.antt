-- the test on the whole table is computed once
use Rattle.calendar.specs.Months.{month_length}
use Rattle.calendar.proofs.TableLaws.{calendar_is}
use Rattle.calendar.proofs.table.month_starts.Goals as goal

pub returns : goal.returns
unfolding month_length
returns c = λ k h. simp calendar_is
