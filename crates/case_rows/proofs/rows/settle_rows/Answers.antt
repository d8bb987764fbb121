use Prim.Native.Nat.{◌+◌, ◌*◌, ◌<◌}
use mathlib.Core.Path.{◌≡◌, ◌∙◌, refl, ap}
use borrow.Author.Rules.{rules}
use native.Mathlib.Nat.{add-sub_cancel_left}
use native.Mathlib.Omega.{arith}
use lib.ListN.{length-take, length-drop, length-set}
use Rattle.binary.proofs.BoundedLaws.{sum_none}
use Rattle.binary.proofs.ListLaws.{join_none, join_part}
use Rattle.casefile.specs.Layout.{bids_offset, most_hours}
use Rattle.casefile.specs.Decode.{format_in, section_of, decode}
use Rattle.casefile.proofs.RecordLaws.{count_is}
use Rattle.conduct.proofs.FileLaws.{has_section, past_few, file_place}
use Rattle.sanctions.proofs.FoundLaws.{SanctionTurn}
use Rattle.case_rows.specs.StageRow.{written_row}
use Rattle.case_rows.specs.StageRows.{row_in}
use Rattle.case_rows.proofs.RowsLaws.{few, fine, sound, turn, row_is, penalty_by, due_more, rows_all}
use Rattle.case_rows.proofs.WriteLaws.{row_bytes_length}
use Rattle.case_rows.proofs.rows.settle_rows.Goals as goal

pub of-case-requires : goal.of-case-requires
of-case-requires c =
    let a = c.requires.accepted_file.0 in
    record { units = has_section _ a 0 (omega arith); references = has_section _ a 1 (omega arith); past = has_section _ a 2 (omega arith); events = has_section _ a 3 (omega arith) }

pub loop-i-init : goal.loop-i-init
loop-i-init c = (refl, join_none _ (bids_offset + 4 * most_hours) _, refl, (λ j q. absurd (let z : ⊥ = omega arith in z)), sum_none _, sum_none _, omega arith)

pub sanction_at-sanction-requires : goal.sanction_at-sanction-requires
sanction_at-sanction-requires c =
    let formatted : c.of-case.result.format ≡ format_in c.args.file.now = c.of-case.ensures.format in
    let events_of : c.of-case.result.events.now ≡ section_of c.args.file.now 3 = c.of-case.ensures.events in
    let count : c.event_count-n.result ≡ (decode c.args.file.now).events.count = c.event_count-n.ensures ∙ count_is _ c.args.file.now _ formatted events_of in
    let past_of : c.of-case.result.past.now ≡ section_of c.args.file.now 2 = c.of-case.ensures.past in
    let units_of : c.of-case.result.units.now ≡ section_of c.args.file.now 0 = c.of-case.ensures.units in
    let f = c.args.file.now in
    let a = c.requires.accepted_file.0 in
    record { in_range = (omega arith, omega (arith, few f a), past_few f a _ past_of); sound = sound f a _ _ _ _ formatted units_of past_of events_of _ _ _ _ c.requires.accepted_file.1 (λ b. (c.shared_slice_known-1.given b).fits) }

pub row_of-row-requires : goal.row_of-row-requires
row_of-row-requires c =
    let formatted : c.of-case.result.format ≡ format_in c.args.file.now = c.of-case.ensures.format in
    let events_of : c.of-case.result.events.now ≡ section_of c.args.file.now 3 = c.of-case.ensures.events in
    let count : c.event_count-n.result ≡ (decode c.args.file.now).events.count = c.event_count-n.ensures ∙ count_is _ c.args.file.now _ formatted events_of in
    let below : c.loop-i.i < (decode c.args.file.now).events.count = omega (arith, c.loop-i-test.true) in
    let inside : c.loop-i.i < 200 = let k = few c.args.file.now c.requires.accepted_file.0 in omega arith in
    let units_of : c.of-case.result.units.now ≡ section_of c.args.file.now 0 = c.of-case.ensures.units in
    let past_of : c.of-case.result.past.now ≡ section_of c.args.file.now 2 = c.of-case.ensures.past in
    let f = c.args.file.now in
    let a = c.requires.accepted_file.0 in record { in_range = (omega arith, inside, fine f a _ _ _ _ formatted units_of past_of events_of); place_in_range = file_place f a _ _ _ formatted units_of events_of _ _ (c.requires.accepted_file.1.placed _ below) below }

pub offset_bounds-penalties-i : goal.offset_bounds-penalties-i
offset_bounds-penalties-i c =
    let formatted : c.of-case.result.format ≡ format_in c.args.file.now = c.of-case.ensures.format in
    let events_of : c.of-case.result.events.now ≡ section_of c.args.file.now 3 = c.of-case.ensures.events in
    let count : c.event_count-n.result ≡ (decode c.args.file.now).events.count = c.event_count-n.ensures ∙ count_is _ c.args.file.now _ formatted events_of in
    let below : c.loop-i.i < (decode c.args.file.now).events.count = omega (arith, c.loop-i-test.true) in
    let inside : c.loop-i.i < 200 = let k = few c.args.file.now c.requires.accepted_file.0 in omega arith in
    omega arith

pub bounds-penalties-i : goal.bounds-penalties-i
bounds-penalties-i c =
    let formatted : c.of-case.result.format ≡ format_in c.args.file.now = c.of-case.ensures.format in
    let events_of : c.of-case.result.events.now ≡ section_of c.args.file.now 3 = c.of-case.ensures.events in
    let count : c.event_count-n.result ≡ (decode c.args.file.now).events.count = c.event_count-n.ensures ∙ count_is _ c.args.file.now _ formatted events_of in
    let below : c.loop-i.i < (decode c.args.file.now).events.count = omega (arith, c.loop-i-test.true) in
    let inside : c.loop-i.i < 200 = let k = few c.args.file.now c.requires.accepted_file.0 in omega arith in
    inside

pub overflow_add-total : goal.overflow_add-total
overflow_add-total c =
    let paid : c.row_of-row.result.penalty ≡ c.sanction_at-sanction.result.penalty = penalty_by _ _ _ _ _ _ _ _ _ _ c.row_of-row.ensures.value in
    let formatted : c.of-case.result.format ≡ format_in c.args.file.now = c.of-case.ensures.format in
    let units_of : c.of-case.result.units.now ≡ section_of c.args.file.now 0 = c.of-case.ensures.units in
    let past_of : c.of-case.result.past.now ≡ section_of c.args.file.now 2 = c.of-case.ensures.past in
    let events_of : c.of-case.result.events.now ≡ section_of c.args.file.now 3 = c.of-case.ensures.events in
    let count : c.event_count-n.result ≡ (decode c.args.file.now).events.count = c.event_count-n.ensures ∙ count_is _ c.args.file.now _ formatted events_of in
    let below : c.loop-i.i < (decode c.args.file.now).events.count = omega (arith, c.loop-i-test.true) in
    let inside : c.loop-i.i < 200 = let k = few c.args.file.now c.requires.accepted_file.0 in omega arith in
    let turned : SanctionTurn (decode c.args.file.now) c.loop-i.i c.loop-i.total c.sanction_at-sanction.result c.loop-i.penalties = turn c.args.file.now c.requires.accepted_file.0 _ _ _ _ formatted units_of past_of events_of _ _ _ _ c.requires.accepted_file.1
    c.loop-i.i below _ _ _ c.sanction_at-sanction.ensures (omega (arith, c.loop-i.invariant.2)) c.loop-i.invariant.3 c.loop-i.invariant.4 in
    omega (arith, paid, turned.fits)

pub overflow_add-due : goal.overflow_add-due
overflow_add-due c =
    let formatted : c.of-case.result.format ≡ format_in c.args.file.now = c.of-case.ensures.format in
    let events_of : c.of-case.result.events.now ≡ section_of c.args.file.now 3 = c.of-case.ensures.events in
    let count : c.event_count-n.result ≡ (decode c.args.file.now).events.count = c.event_count-n.ensures ∙ count_is _ c.args.file.now _ formatted events_of in
    let below : c.loop-i.i < (decode c.args.file.now).events.count = omega (arith, c.loop-i-test.true) in
    let inside : c.loop-i.i < 200 = let k = few c.args.file.now c.requires.accepted_file.0 in omega arith in
    omega (arith, c.row_of-row.ensures.make_up_in_range, c.loop-i.invariant.6)

pub overflow_mul-at : goal.overflow_mul-at
overflow_mul-at c =
    let formatted : c.of-case.result.format ≡ format_in c.args.file.now = c.of-case.ensures.format in
    let events_of : c.of-case.result.events.now ≡ section_of c.args.file.now 3 = c.of-case.ensures.events in
    let count : c.event_count-n.result ≡ (decode c.args.file.now).events.count = c.event_count-n.ensures ∙ count_is _ c.args.file.now _ formatted events_of in
    let below : c.loop-i.i < (decode c.args.file.now).events.count = omega (arith, c.loop-i-test.true) in
    let inside : c.loop-i.i < 200 = let k = few c.args.file.now c.requires.accepted_file.0 in omega arith in
    omega arith

pub overflow_add-end : goal.overflow_add-end
overflow_add-end c =
    let formatted : c.of-case.result.format ≡ format_in c.args.file.now = c.of-case.ensures.format in
    let events_of : c.of-case.result.events.now ≡ section_of c.args.file.now 3 = c.of-case.ensures.events in
    let count : c.event_count-n.result ≡ (decode c.args.file.now).events.count = c.event_count-n.ensures ∙ count_is _ c.args.file.now _ formatted events_of in
    let below : c.loop-i.i < (decode c.args.file.now).events.count = omega (arith, c.loop-i-test.true) in
    let inside : c.loop-i.i < 200 = let k = few c.args.file.now c.requires.accepted_file.0 in omega arith in
    omega arith

pub slice_bounds-write_row-end : goal.slice_bounds-write_row-end
slice_bounds-write_row-end c =
    let formatted : c.of-case.result.format ≡ format_in c.args.file.now = c.of-case.ensures.format in
    let events_of : c.of-case.result.events.now ≡ section_of c.args.file.now 3 = c.of-case.ensures.events in
    let count : c.event_count-n.result ≡ (decode c.args.file.now).events.count = c.event_count-n.ensures ∙ count_is _ c.args.file.now _ formatted events_of in
    let below : c.loop-i.i < (decode c.args.file.now).events.count = omega (arith, c.loop-i-test.true) in
    omega (arith, below, c.requires.has_room, c.loop-i.invariant.0)

pub write_row-requires : goal.write_row-requires
write_row-requires c =
    let formatted : c.of-case.result.format ≡ format_in c.args.file.now = c.of-case.ensures.format in
    let events_of : c.of-case.result.events.now ≡ section_of c.args.file.now 3 = c.of-case.ensures.events in
    let count : c.event_count-n.result ≡ (decode c.args.file.now).events.count = c.event_count-n.ensures ∙ count_is _ c.args.file.now _ formatted events_of in
    let below : c.loop-i.i < (decode c.args.file.now).events.count = omega (arith, c.loop-i-test.true) in
    simp (add-sub_cancel_left, length-take, length-drop) (omega (arith, below, c.requires.has_room, c.loop-i.invariant.0))

pub loop-i-preserved : goal.loop-i-preserved
loop-i-preserved c =
    let formatted : c.of-case.result.format ≡ format_in c.args.file.now = c.of-case.ensures.format in
    let events_of : c.of-case.result.events.now ≡ section_of c.args.file.now 3 = c.of-case.ensures.events in
    let count : c.event_count-n.result ≡ (decode c.args.file.now).events.count = c.event_count-n.ensures ∙ count_is _ c.args.file.now _ formatted events_of in
    let below : c.loop-i.i < (decode c.args.file.now).events.count = omega (arith, c.loop-i-test.true) in
    let units_of : c.of-case.result.units.now ≡ section_of c.args.file.now 0 = c.of-case.ensures.units in
    let past_of : c.of-case.result.past.now ≡ section_of c.args.file.now 2 = c.of-case.ensures.past in
    let inside : c.loop-i.i < 200 = let k = few c.args.file.now c.requires.accepted_file.0 in omega arith in
    let turned : SanctionTurn (decode c.args.file.now) c.loop-i.i c.loop-i.total c.sanction_at-sanction.result c.loop-i.penalties = turn c.args.file.now c.requires.accepted_file.0 _ _ _ _ formatted units_of past_of events_of _ _ _ _ c.requires.accepted_file.1
    c.loop-i.i below _ _ _ c.sanction_at-sanction.ensures (omega (arith, c.loop-i.invariant.2)) c.loop-i.invariant.3 c.loop-i.invariant.4 in
    let made : let a = c.args in
    c.row_of-row.result ≡ row_in a.file.now a.levels.now a.corrects.now c.loop-i.i = row_is c.args.file.now c.requires.accepted_file.0 _ _ _ _ formatted units_of past_of events_of _ _ _ _ c.requires.accepted_file.1
    c.loop-i.i below _ _ _ _ _ _ turned c.row_of-row.ensures.value in
    let paid : c.row_of-row.result.penalty ≡ c.sanction_at-sanction.result.penalty = penalty_by _ _ _ _ _ _ _ _ _ _ c.row_of-row.ensures.value in
    let a = c.args in (
      search rules,
      join_part (bids_offset + 4 * most_hours) _ (λ j. row_bytes_length (row_in a.file.now a.levels.now a.corrects.now j)) a.rows.now c.loop-i.rows c.write_row.new.row c.loop-i.i c.loop-i.invariant.1
          (c.write_row.ensures ∙ ap written_row made),
      length-set c.loop-i.penalties c.loop-i.i c.row_of-row.result.penalty ∙ c.loop-i.invariant.2,
      rw paid turned.held,
      rw paid turned.summed,
      due_more a.file.now a.levels.now a.corrects.now _ _ _ c.loop-i.invariant.5 made,
      omega (arith, c.row_of-row.ensures.make_up_in_range, c.loop-i.invariant.6),
    )

pub shape_of-rows : goal.shape_of-rows
shape_of-rows c = c.loop-i.invariant.0

pub returns : goal.returns
returns c =
    let formatted : c.of-case.result.format ≡ format_in c.args.file.now = c.of-case.ensures.format in
    let events_of : c.of-case.result.events.now ≡ section_of c.args.file.now 3 = c.of-case.ensures.events in
    let count : c.event_count-n.result ≡ (decode c.args.file.now).events.count = c.event_count-n.ensures ∙ count_is _ c.args.file.now _ formatted events_of in
    let e : c.loop-i.i ≡ (decode c.args.file.now).events.count = omega (arith, c.loop-i-test.false) in
    let a = c.args in
    let all = rows_all a.file.now a.levels.now a.corrects.now a.rows.now _ _ _ _ e c.loop-i.invariant.4 c.loop-i.invariant.5 c.loop-i.invariant.1 in
    record { value = all.0; rows_after = all.1 }
