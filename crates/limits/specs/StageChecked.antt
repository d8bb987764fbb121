-- What the check hands on of a case that it accepts.
use Rattle.std.specs.Prelude.{ℕ, List, ◌≡◌}
use Rattle.binary.specs.Lists.{Holds}
use Rattle.casefile.specs.Decode.{decode}
use Rattle.casefile.specs.Lookup.{unit_of, bid_level, correct_in}
use Rattle.limits.specs.StageLookup.{correct_level}
use Rattle.limits.specs.Refusal.{refusal}

-- a file that is accepted with some correction and some rows buffer
pub record AcceptedFile (file : List ℕ) : Type 0 where
  pub correction : List ℕ
  pub rows_length : ℕ
  pub accepted : refusal file correction rows_length ≡ 0

-- of each event what the check found: its unit's place, r and c, each where it is read
pub record HandedOn (file correction places levels corrects : List ℕ) : Type 0 where
  pub placed : Holds (decode file).events.count places (unit_of (decode file))
  pub levelled : Holds (decode file).events.count levels (bid_level (decode file).references (decode file).events)
  pub corrected : Holds (decode file).events.count corrects (correct_level (correct_in file correction) (decode file).events)
