use mathlib.Core.Path.{◌∙◌, ap}
use Rattle.calls.specs.Answers.{time_answer}
use Rattle.calls.proofs.AnswerLaws.{times_answered}
use Rattle.api.specs.Exported.{exported_times}
use Rattle.api.proofs.smaller_calls.attachment_h_times_fail.Goals as goal

pub returns : goal.returns
returns c = c.of_times.ensures ∙ ap exported_times (ap time_answer c.times_fail.ensures ∙ times_answered _)
