use mathlib.Core.Path.{◌∙◌, ap}
use Rattle.calls.specs.Answers.{verdict_answer}
use Rattle.penalty_calls.specs.SanctionCalls.{fuel_day_answer}
use Rattle.calls.proofs.AnswerLaws.{verdict_answered}
use Rattle.api.specs.Exported.{exported}
use Rattle.api.proofs.smaller_calls.attachment_h_fuel_day_counts.Goals as goal

pub returns : goal.returns
unfolding fuel_day_answer
returns c = c.of_verdict.ensures ∙ ap exported (ap verdict_answer c.fuel_day_counts.ensures ∙ verdict_answered _ _ _)
