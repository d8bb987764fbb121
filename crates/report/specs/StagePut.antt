-- Text that is put into a buffer at a position: every other byte stays.
use Rattle.std.specs.Prelude.{ℕ, ◌+◌, List, ◌++◌, ◌≡◌, length}
use Rattle.std.proofs.lemmas.List.Edits.{sets}
use Rattle.casefile.specs.declared.events.Event.{Event}
use Rattle.report.specs.Decimal.{field}
use Rattle.report.specs.Line.{space}

-- `text` is stored in `old` from `at` on, which gives `new`, and `next` is the position after it
pub record Put (old : List ℕ) (at : ℕ) (text new : List ℕ) (next : ℕ) : Type 0 where
  pub place : next ≡ at + length text
  pub content : new ≡ sets old at text

-- the fields of an event, as the record of the code has them
unfoldable pub event_text : Event → List ℕ
event_text e =
    field e.day space ++ field e.kind space ++ field e.unit space ++ field e.market space ++ field e.component space
