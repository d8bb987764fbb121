-- `text::put_byte` meets its contract: one store, at the position.
use mathlib.Core.Path.{refl}
use borrow.Author.Rules.{rules}
use Rattle.report.proofs.text.put_byte.Goals as goal

pub bounds-out-at : goal.bounds-out-at
bounds-out-at c = search rules

pub overflow_add-result : goal.overflow_add-result
overflow_add-result c = search rules

pub shape_of-out : goal.shape_of-out
shape_of-out c = search rules

pub returns : goal.returns
returns c = record { place = refl; content = refl }
