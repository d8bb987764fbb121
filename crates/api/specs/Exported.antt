-- The exported structs, from the answers of the public calls.
use Rattle.std.specs.Prelude.{false}
use Rattle.calls.specs.Answers as calls
use Rattle.settlement.specs.Settled as settled
use Rattle.api.specs.declared.exported_answers.ExportedAnswer.{ExportedAnswer}
use Rattle.api.specs.declared.exported_answers.ExportedTimes.{ExportedTimes}
use Rattle.api.specs.declared.case.Outcome.{Outcome}

-- the refusal's number, and 0 for no figure; or 0 and the figure
abbrev pub exported : calls.Answer → ExportedAnswer
exported (calls.refused n) = record { number = n; figure = 0 }
exported (calls.given x) = record { number = 0; figure = x }

abbrev pub exported_times : calls.TimeAnswer → ExportedTimes
exported_times (calls.times_refused n) =
    record { number = n; start_up = false; minimum_run = false; minimum_down = false }
exported_times (calls.times_given x y z) = record { number = 0; start_up = x; minimum_run = y; minimum_down = z }

abbrev pub exported_settlement : settled.SettlementAnswer → Outcome
exported_settlement a =
    record { number = a.number; rows = a.row_count; penalties = a.penalties; make_ups = a.make_ups }
