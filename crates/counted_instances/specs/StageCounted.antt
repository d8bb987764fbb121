-- The bits as the code finds them, in the bytes of past and events and in the tables of groups and flag masks.
use Rattle.std.specs.Prelude.{ℕ, ◌+◌, ◌-◌, Bool, cond, ◌&&◌, List, ltb, get_or}
use Rattle.casefile.specs.declared.layout.Format.{Format}
use Rattle.casefile.specs.Decode.{past_in, events_in}
use Rattle.instance_counts.specs.StageInstances.{instance_at, row_counts, entry_counts}
use Rattle.counted_instances.specs.CountedInstances.{byte_of, event_list_bytes, list_bytes}

-- event j is counted by event i, k periods back
unfoldable pub event_counted : Format → (events groups masks : List ℕ) (k i j : ℕ) → Bool
event_counted format events groups masks k i j =
    ltb j i
    && (instance_at format events masks i
    && row_counts format events groups masks (get_or groups i 0) ((events_in format events).market i) ((events_in format events).period i) k j)

-- past entry j is
unfoldable pub entry_counted : Format → (past events groups masks : List ℕ) (k i j : ℕ) → Bool
entry_counted format past events groups masks k i j =
    ltb j (past_in past).count
    && (instance_at format events masks i
    && entry_counts past (get_or groups i 0) ((events_in format events).market i) ((events_in format events).period i) k j)

-- byte b of the lists
unfoldable pub byte_in : Format → (past events groups masks : List ℕ) (i b : ℕ) → ℕ
byte_in format past events groups masks i b =
    cond (ltb b event_list_bytes) (byte_of (event_counted format events groups masks 2 i) b)
    (cond (ltb b list_bytes) (byte_of (entry_counted format past events groups masks 2 i) (b - event_list_bytes))
    (cond (ltb b (list_bytes + event_list_bytes)) (byte_of (event_counted format events groups masks 1 i) (b - list_bytes))
    (byte_of (entry_counted format past events groups masks 1 i) (b - (list_bytes + event_list_bytes)))))
