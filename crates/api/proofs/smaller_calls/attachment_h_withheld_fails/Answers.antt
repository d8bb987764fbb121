use mathlib.Core.Path.{◌∙◌, ap}
use Rattle.calls.specs.Answers.{verdict_answer}
use Rattle.test_calls.specs.ConductCalls.{withheld_answer}
use Rattle.calls.proofs.AnswerLaws.{verdict_answered}
use Rattle.api.specs.Exported.{exported}
use Rattle.api.proofs.smaller_calls.attachment_h_withheld_fails.Goals as goal

pub returns : goal.returns
unfolding withheld_answer
returns c = c.of_verdict.ensures ∙ ap exported (ap verdict_answer c.withheld_fails.ensures ∙ verdict_answered _ _ _)
