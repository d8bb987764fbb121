use borrow.Author.Tests.{lt-ltb, le-ltb}
use native.Mathlib.Omega.{arith}
use Rattle.binary.specs.Integers.{word}
use Rattle.binary.proofs.words.word_of.Goals as goal

pub returns-then-y-x : goal.returns-then-y-x
unfolding word
returns-then-y-x c = rw (le-ltb _ _ c.if-y-x.true)

pub returns-else-y-x : goal.returns-else-y-x
unfolding word
returns-else-y-x c = rw (c.minus.ensures, lt-ltb _ _ c.if-y-x.false) (omega arith)
