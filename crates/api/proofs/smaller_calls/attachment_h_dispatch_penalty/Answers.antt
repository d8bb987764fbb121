use mathlib.Core.Path.{◌∙◌, ap}
use Rattle.calls.specs.Answers.{figure_answer}
use Rattle.calls.proofs.AnswerLaws.{figure_answered}
use Rattle.api.specs.Exported.{exported}
use Rattle.api.proofs.smaller_calls.attachment_h_dispatch_penalty.Goals as goal

pub returns : goal.returns
returns c = c.of_figure.ensures ∙ ap exported (ap figure_answer c.dispatch_penalty.ensures ∙ figure_answered _)
