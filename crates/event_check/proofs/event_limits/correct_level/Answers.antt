use Rattle.event_check.proofs.event_limits.correct_level.Goals as goal

pub returns : goal.returns
returns c = c.requires.is_own c.if-corrected.false
