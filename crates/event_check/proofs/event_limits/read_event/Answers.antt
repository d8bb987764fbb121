use mathlib.Core.Bool.{Bool, true, false}
use mathlib.Core.Path.{◌≡◌, refl}
use Rattle.event_check.specs.StageReading.{read_if, read_event}
use Rattle.event_check.proofs.EventLaws.{read_is, read_number}
use Rattle.event_check.proofs.event_limits.read_event.Goals as goal

pub returns-then-not-fields : goal.returns-then-not-fields
unfolding read_if
returns-then-not-fields c =
    let fields_out : c.fields_fine-fields.result ≡ false
    → let s = c.args in
    read_if false c.event_at-e.result ≡ read_event s.case.format s.case.events.now s.i = λ t. read_is _ _ _ _ _ _ _ false c.event_at-e.ensures c.fields_fine-fields.ensures refl refl (rw t) in
    let e = fields_out c.if-not-fields.true in (e, read_number _ _ _ _ e)

pub returns-then-not-cells_fine : goal.returns-then-not-cells_fine
unfolding read_if
returns-then-not-cells_fine c =
    let cells-too : (b : Bool) → c.fields_fine-fields.result ≡ true → c.cells_fine.result ≡ b
    → let s = c.args in
    read_if b c.event_at-e.result ≡ read_event s.case.format s.case.events.now s.i = λ b t d. read_is _ _ _ _ _ _ _ b c.event_at-e.ensures c.fields_fine-fields.ensures c.event_cells.ensures.0 c.cells_fine.ensures (rw t d) in
    let e = cells-too false c.if-not-fields.false c.if-not-cells_fine.true in (e, read_number _ _ _ _ e)

pub returns : goal.returns
unfolding read_if
returns c =
    let cells-too : (b : Bool) → c.fields_fine-fields.result ≡ true → c.cells_fine.result ≡ b
    → let s = c.args in
    read_if b c.event_at-e.result ≡ read_event s.case.format s.case.events.now s.i = λ b t d. read_is _ _ _ _ _ _ _ b c.event_at-e.ensures c.fields_fine-fields.ensures c.event_cells.ensures.0 c.cells_fine.ensures (rw t d) in
    let e = cells-too true c.if-not-fields.false c.if-not-cells_fine.false in (e, read_number _ _ _ _ e)
