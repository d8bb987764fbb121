use borrow.Author.Tests.{lt-ltb, le-ltb}
use native.Mathlib.Omega.{arith}
use Rattle.counted_instances.specs.StageCounted.{byte_in}
use Rattle.counted_instances.proofs.instance_bits.byte_at.Goals as goal

pub returns-then-b-lt-EVENT_BYTES : goal.returns-then-b-lt-EVENT_BYTES
unfolding byte_in
returns-then-b-lt-EVENT_BYTES c = rw (lt-ltb _ _ c.if-b-lt-EVENT_BYTES.true, c.event_byte.ensures)

pub past_byte-requires : goal.past_byte-requires
unfolding byte_in
past_byte-requires c = let p = c.requires in (p.0, p.1, omega arith)

pub returns-then-b-lt-LIST_BYTES : goal.returns-then-b-lt-LIST_BYTES
unfolding byte_in
returns-then-b-lt-LIST_BYTES c = rw (le-ltb _ _ c.if-b-lt-EVENT_BYTES.false, lt-ltb _ _ c.if-b-lt-LIST_BYTES.true, c.past_byte.ensures)

pub event_byte-requires-then-b-lt-LAST_LIST : goal.event_byte-requires-then-b-lt-LAST_LIST
unfolding byte_in
event_byte-requires-then-b-lt-LAST_LIST c = let p = c.requires in (p.0, p.1, omega arith)

pub returns-then-b-lt-LAST_LIST : goal.returns-then-b-lt-LAST_LIST
unfolding byte_in
returns-then-b-lt-LAST_LIST c = rw (le-ltb _ _ c.if-b-lt-EVENT_BYTES.false, le-ltb _ _ c.if-b-lt-LIST_BYTES.false, lt-ltb _ _ c.if-b-lt-LAST_LIST.true, c.event_byte-then-b-lt-LAST_LIST.ensures)

pub past_byte-requires-2 : goal.past_byte-requires-2
unfolding byte_in
past_byte-requires-2 c = let p = c.requires in (p.0, p.1, omega arith)

pub returns : goal.returns
unfolding byte_in
returns c = rw (le-ltb _ _ c.if-b-lt-EVENT_BYTES.false, le-ltb _ _ c.if-b-lt-LIST_BYTES.false, le-ltb _ _ c.if-b-lt-LAST_LIST.false, c.past_byte-2.ensures)
