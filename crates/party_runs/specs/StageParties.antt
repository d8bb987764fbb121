-- Runs of events, and the parties within them: what the stages find once for each event.
use Rattle.std.specs.Prelude.{ℕ, ◌≤◌, ◌<◌, Bool, true, false, cond, ◌&&◌, List, ◌≡◌, eqb, get_or}
use Rattle.binary.specs.Lists.{first_from}
use Rattle.casefile.specs.Case.{Events, Case}
use Rattle.casefile.specs.Lookup.{together}

-- ---- runs

-- event j is of event i's day, kind and market: they stand in one run
unfoldable pub same_run : Events → (i j : ℕ) → Bool
same_run e i j = eqb (e.kind j) (e.kind i) && eqb (e.day j) (e.day i) && eqb (e.market j) (e.market i)

-- what stands between two events of a run is of the run (limit 11)
abbrev pub RunsTogether : Events → Type 0
RunsTogether e = (i j k : ℕ) → i ≤ j → j ≤ k → k < e.count → same_run e i k ≡ true → same_run e i j ≡ true

-- the run of event i begins there
pub record RunStart (e : Events) (i start : ℕ) : Type 0 where
  pub reached : start ≤ i
  pub earlier : (j : ℕ) → j < start → same_run e i j ≡ false
  pub since : (j : ℕ) → start ≤ j → j ≤ i → same_run e i j ≡ true

-- the run of event i ends there
pub record RunEnd (e : Events) (i end : ℕ) : Type 0 where
  pub after : i < end
  pub within : end ≤ e.count
  pub until : (j : ℕ) → i ≤ j → j < end → same_run e i j ≡ true
  pub rest : (j : ℕ) → end ≤ j → j < e.count → same_run e i j ≡ false

-- ---- leaders

-- the first event of the file together with event i; a bid leads itself: nothing is summed over a party of bids
unfoldable pub leader_of : Case → ℕ → ℕ
leader_of c i = cond (eqb (c.events.kind i) 4) i (first_from i 0 (together c i))

-- event j has event i's group in the table
unfoldable pub same_group : (groups : List ℕ) → (i j : ℕ) → Bool
same_group groups i j = eqb (get_or groups j 0) (get_or groups i 0)

-- the leader of event i, the groups read in the table
unfoldable pub leader_in : Events → (groups : List ℕ) → ℕ → ℕ
leader_in e groups i = cond (eqb (e.kind i) 4) i (first_from i 0 (λ j. same_run e i j && same_group groups i j))
