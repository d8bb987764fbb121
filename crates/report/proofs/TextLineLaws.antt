-- No line, one line more, and the fields of an event.
use Prim.Native.Nat.{ℕ, ◌+◌}
use mathlib.Core.List.{List, [], ◌++◌}
use mathlib.Core.Path.{◌≡◌, refl}
use Rattle.binary.specs.Lists.{join_to}
use Rattle.binary.proofs.ListLaws.{join_more}
use Rattle.casefile.specs.declared.layout.Format.{Format}
use Rattle.casefile.specs.Layout.{row_width}
use Rattle.casefile.specs.Case.{Events}
use Rattle.casefile.specs.Decode.{record_at}
use Rattle.casefile.specs.StageRead.{event_at}
use Rattle.report.specs.Line.{event_fields, row_fields, listing_line, lines_to}
use Rattle.report.specs.StagePut.{event_text}

pub lines_none : (format : Format) (e : Events) (rows : List ℕ) → lines_to format 0 e rows ≡ []
unfolding lines_to join_to
lines_none format e rows = refl

pub lines_more : (format : Format) (i : ℕ) (e : Events) (rows : List ℕ)
    → lines_to format (i + 1) e rows ≡ lines_to format i e rows ++ (event_fields e i ++ row_fields (record_at (row_width format) rows i))
unfolding lines_to listing_line
lines_more format i e rows = join_more i (listing_line format e rows)

-- the text of event i, from the record of the code
pub event_text_is : (e : Events) (i : ℕ) → event_text (event_at e i) ≡ event_fields e i
unfolding event_text event_at event_fields
event_text_is e i = refl
