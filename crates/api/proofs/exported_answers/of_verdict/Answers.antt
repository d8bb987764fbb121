use mathlib.Core.Bool.{Bool, true, false}
use mathlib.Core.Path.{◌≡◌, refl}
use mir.Val.{bool_byte}
use Rattle.calls.specs.Answers.{bit, verdict_answer}
use Rattle.api.proofs.exported_answers.of_verdict.Goals as goal

pub returns-in-Err : goal.returns-in-Err
unfolding verdict_answer
returns-in-Err c = rw (c.in-Err.is, c.from.ensures)

byte_is : (b : Bool) → bool_byte b ≡ bit b
unfolding bit
byte_is true = refl
byte_is false = refl

pub returns-in-Ok : goal.returns-in-Ok
unfolding verdict_answer
returns-in-Ok c = rw (c.in-Ok.is, c.from-in-Ok.ensures, byte_is _)
