-- What the readers of records and hour cells answer.
use Rattle.std.specs.Prelude.{ℕ, ◌+◌, ◌*◌, List, take}
use Rattle.binary.specs.Bytes.{u32_at}
use Rattle.casefile.specs.Layout.{cell_width, most_hours}
use Rattle.casefile.specs.Case.{Units, References, Past, Events}
use Rattle.casefile.specs.declared.cells.Cell.{Cell}
use Rattle.casefile.specs.declared.units.Unit.{Unit}
use Rattle.casefile.specs.declared.references.Reference.{Reference}
use Rattle.casefile.specs.declared.past.Entry.{Entry}
use Rattle.casefile.specs.declared.events.Event.{Event}

-- the cells of the part of a record where they begin: nothing that follows the last
abbrev pub day_cells : (cells : List ℕ) → List ℕ
day_cells cells = take (cell_width * most_hours) cells

-- the cell of hour h
unfoldable pub cell_of : (cells : List ℕ) → ℕ → Cell
cell_of cells h =
    record {
      a = u32_at (day_cells cells) (cell_width * h);
      b = u32_at (day_cells cells) (cell_width * h + 4);
      m = u32_at (day_cells cells) (cell_width * h + 8);
    }

-- the fields of unit i, of reference i, of a past entry and of event i, as the records of the code have them
unfoldable pub unit_at : Units → ℕ → Unit
unit_at u i =
    record {
      number = u.number i;
      group = u.group i;
      area = u.area i;
      capability = u.capability i;
      rate = u.rate i;
      average_price = u.average_price i;
      constrained_hours = u.constrained_hours i;
    }

unfoldable pub reference_at : References → ℕ → Reference
reference_at r i = record { unit = r.unit i; component = r.component i; value = r.value i }

unfoldable pub entry_at : Past → ℕ → Entry
entry_at p i =
    record {
      group = (p.entry i).group;
      kind = (p.entry i).kind;
      market = (p.entry i).market;
      period = (p.entry i).period;
      day = (p.entry i).day;
    }

unfoldable pub event_at : Events → ℕ → Event
event_at e i =
    record {
      kind = e.kind i;
      market = e.market i;
      unit = e.unit i;
      period = e.period i;
      component = e.component i;
      impact = e.impact i;
      day = e.day i;
      hours = e.hours i;
      p = e.P i;
      q = e.Q i;
      r = e.R i;
    }
