use mathlib.Core.Path.{◌∙◌, ap}
use Rattle.calls.specs.Answers.{verdict_answer}
use Rattle.test_calls.specs.ConductCalls.{dispatch_answer}
use Rattle.calls.proofs.AnswerLaws.{verdict_answered}
use Rattle.api.specs.Exported.{exported}
use Rattle.api.proofs.smaller_calls.attachment_h_dispatch_fails.Goals as goal

pub returns : goal.returns
unfolding dispatch_answer
returns c = c.of_verdict.ensures ∙ ap exported (ap verdict_answer c.dispatch_fails.ensures ∙ verdict_answered _ _ _)
