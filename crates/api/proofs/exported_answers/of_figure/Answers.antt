use mathlib.Core.Path.{ap, sym}
use Rattle.calls.specs.Answers.{figure_answer}
use Rattle.api.specs.Exported.{exported}
use Rattle.api.proofs.exported_answers.of_figure.Goals as goal

pub returns-in-Err : goal.returns-in-Err
unfolding figure_answer
returns-in-Err c = rw (c.in-Err.is, c.from-number.ensures)

pub returns-in-Ok : goal.returns-in-Ok
unfolding figure_answer
returns-in-Ok c = ap (λ x. exported (figure_answer x)) (sym c.in-Ok.is)
