-- The instances that N3 and N2 of an event counted (docs/RULES.md, R14): two lists of bits, one of events and one of past entries, for each.
use Rattle.std.specs.Prelude.{ℕ, ◌+◌, ◌-◌, ◌*◌, ◌/◌, ◌%◌, Bool, cond, ◌&&◌, List, ◌++◌, ◌≡◌, ltb, eqb, length, get_or, drop}
use Rattle.binary.specs.Bounded.{count_to, mask_to, bit_of}
use Rattle.binary.specs.Lists.{list_to}
use Rattle.casefile.specs.Layout.{most_past, most_events}
use Rattle.casefile.specs.Case.{Case}
use Rattle.casefile.specs.Decode.{decode}
use Rattle.limits.specs.Refusal.{refusal, most_rows}
use Rattle.sanctions.specs.Penalties.{is_instance, counts_here, counts_past, n3, n2}

-- event j is counted by event i: an instance earlier in the file that counts, k periods back; an event that is no instance counts none
unfoldable pub counted_here : Case → (k i j : ℕ) → Bool
counted_here c k i j = is_instance c i && (ltb j i && counts_here c k i j)

-- past entry j likewise
unfoldable pub counted_past : Case → (k i j : ℕ) → Bool
counted_past c k i j = is_instance c i && (ltb j c.past.count && counts_past c k i (c.past.entry j))

-- byte b of a list of bits: j is bit j % 8 of byte j / 8
unfoldable pub byte_of : (ℕ → Bool) → ℕ → ℕ
byte_of p b = mask_to 8 (λ t. p (8 * b + t))

-- a bit for each of 200 events and 256 past entries
abbrev pub event_list_bytes : ℕ
event_list_bytes = 25

abbrev pub past_list_bytes : ℕ
past_list_bytes = 32

abbrev pub list_bytes : ℕ
list_bytes = event_list_bytes + past_list_bytes

-- the lists of N3, then those of N2
abbrev pub counted_length : ℕ
counted_length = 2 * list_bytes

unfoldable pub counted_byte : Case → (i b : ℕ) → ℕ
counted_byte c i b =
    cond (ltb b event_list_bytes) (byte_of (counted_here c 2 i) b)
    (cond (ltb b list_bytes) (byte_of (counted_past c 2 i) (b - event_list_bytes))
    (cond (ltb b (list_bytes + event_list_bytes)) (byte_of (counted_here c 1 i) (b - list_bytes))
    (byte_of (counted_past c 1 i) (b - (list_bytes + event_list_bytes)))))

-- the buffer once the lists are written; its bytes beyond them stay
unfoldable pub with_counted : Case → ℕ → (out : List ℕ) → List ℕ
with_counted c i out = list_to counted_length (counted_byte c i) ++ drop counted_length out

-- the case's refusal, else 10 where there is no such event, else 15 where the buffer is too short
unfoldable pub instances_answer : (file correction : List ℕ) (event out_length : ℕ) → ℕ
instances_answer f k i n =
    cond (eqb (refusal f k (most_rows f)) 0)
    (cond (ltb i (decode f).events.count) (cond (ltb n counted_length) 15 0) 10)
    (refusal f k (most_rows f))

-- refused, the buffer is as it was
unfoldable pub instances_out : (file correction : List ℕ) (event : ℕ) (out : List ℕ) → List ℕ
instances_out f k i out = cond (eqb (instances_answer f k i (length out)) 0) (with_counted (decode f) i out) out

-- ---- the counts

-- bit j of the list that begins at byte start
abbrev pub bit_in : (out : List ℕ) (start j : ℕ) → Bool
bit_in out start j = bit_of (get_or out (start + j / 8) 0) (j % 8)

-- the bits of a list of events and of the list of past entries behind it
abbrev pub bits_from : (out : List ℕ) (start : ℕ) → ℕ
bits_from out start = count_to most_events (bit_in out start) + count_to most_past (bit_in out (start + event_list_bytes))

-- the lists that are written have one bit fewer than N3 and N2 count; of an event that is no instance both are 0, and so are the bits
abbrev pub CountsAgree : Type 0
CountsAgree =
    (file correction : List ℕ) (event : ℕ) (out : List ℕ)
    → instances_answer file correction event (length out) ≡ 0
    → (bits_from (instances_out file correction event out) 0 ≡ n3 (decode file) event - 1)
    × (bits_from (instances_out file correction event out) list_bytes ≡ n2 (decode file) event - 1)
