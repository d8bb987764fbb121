use mathlib.Core.Path.{ap, sym}
use Rattle.calls.specs.Answers.{time_answer}
use Rattle.api.specs.Exported.{exported_times}
use Rattle.api.proofs.exported_answers.of_times.Goals as goal

pub returns-in-Err : goal.returns-in-Err
unfolding time_answer
returns-in-Err c = rw (c.in-Err.is, c.from.ensures)

pub returns-in-Ok : goal.returns-in-Ok
unfolding time_answer
returns-in-Ok c = ap (λ x. exported_times (time_answer x)) (sym c.in-Ok.is)
