-- The three demands, about the call `settle` of crate settlement: each in words, and the claim beside it. Each is a contract, proved
-- of the code, of a function of src/run.rt.
use Rattle.std.specs.Prelude.{ℕ, ◌*◌, List, ◌++◌, ◌⊎◌, ◌≡◌, length, drop, Result, Ok, Err}
use Rattle.binary.specs.Lists.{join_to}
use Rattle.casefile.specs.Layout.{row_width}
use Rattle.casefile.specs.Case.{Case}
use Rattle.casefile.specs.Decode.{format_in, decode}
use Rattle.casefile.specs.Lookup.{correct_in}
use Rattle.limits.specs.Refusal.{limits, refusal, MeetsAll, DecidedBy}
use Rattle.sanctions.specs.Penalties.{total_penalty}
use Rattle.default_bids.specs.Mitigation.{total_make_up}
use Rattle.settlement.specs.Row.{row_of}
use Rattle.settlement.specs.Settled.{answer_of, settlement_of, answer_of_settlement, rows_after}
use Rattle.calls.specs.declared.answers.Refusal.{Refusal}
use Rattle.settlement.specs.declared.settle.Settled.{Settled}
use Rattle.worse_conduct.specs.Changes.{Change, apply_all, TakesAll}
use Rattle.worse_conduct.specs.Promise.{EnergyNotNegative, NoSmaller}

-- a run of the call on these arguments: its answer, and the rows buffer that it leaves. Every call of `settle` is one, for every
-- file, correction and buffer
pub record Run (file correction rows : List ℕ) (answer : Result Settled Refusal) (after : List ℕ) : Type 0 where
  pub answered : answer ≡ settlement_of (answer_of file correction (length rows))
  pub left : after ≡ rows_after file correction rows

module _ (file correction rows : List ℕ) (answer : Result Settled Refusal) (after : List ℕ) where
  -- Demand 1. The limits of a case are those of its file, of the correction beside it and of the length of the rows buffer, in
  -- checking order. Where it meets all of them it is accepted: the answer is Settled, with one row for each event and both totals.
  -- Otherwise one of them is the first that is broken, every limit before it being met; the case is refused with that limit's
  -- number, and the rows buffer is byte for byte what it was.
  pub record Demand1 : Type 0 where
    pub either : MeetsAll (limits file correction (length rows)) ⊎ ((m : ℕ) × DecidedBy (limits file correction (length rows)) m)
    pub accepts : MeetsAll (limits file correction (length rows))
        → answer
        ≡ Ok (record { rows = (decode file).events.count; penalties = total_penalty (decode file); make_ups = total_make_up (decode file) (correct_in file correction) })
    pub refuses : (m : ℕ) → DecidedBy (limits file correction (length rows)) m → answer ≡ Err (record { number = m })
    pub untouched : (m : ℕ) → DecidedBy (limits file correction (length rows)) m → after ≡ rows

  -- Demand 2. Where the case is accepted, the rows buffer is the row of each event as the documents state it, from the first event
  -- to the last, and every byte beyond the last row is what it was; the total of penalties and that of make-ups are what the
  -- documents state.
  pub record Demand2 : Type 0 where
    pub rows_stated : refusal file correction (length rows) ≡ 0
        → after ≡ join_to (decode file).events.count (row_of (decode file) (correct_in file correction)) ++ drop (row_width (format_in file) * (decode file).events.count) rows
    pub penalties_stated : refusal file correction (length rows) ≡ 0 → (answer_of_settlement answer).penalties ≡ total_penalty (decode file)
    pub make_ups_stated : refusal file correction (length rows) ≡ 0
        → (answer_of_settlement answer).make_ups ≡ total_make_up (decode file) (correct_in file correction)

module _ (file worse correction rows worse_rows : List ℕ) (answer worse_answer : Result Settled Refusal) (after worse_after : List ℕ) where
  -- the claim of demand 3, under a premise on the case before
  abbrev pub NeverCheaper : (Premise : Case → Type 0) → Type 0
  NeverCheaper Premise =
      (changes : List Change)
      → apply_all changes file ≡ worse
      → TakesAll file changes
      → refusal file correction (length rows) ≡ 0
      → refusal worse correction (length worse_rows) ≡ 0
      → Premise (decode file)
      → NoSmaller (format_in file) (record { answer = answer_of_settlement answer; rows = after }) (record { answer = answer_of_settlement worse_answer; rows = worse_after })

  -- Demand 3. Take every list of changes, of any number and in any order, that leads from one case to a worse one. Each change is
  -- made to the case as the one before left it, and is one of three: a higher a in an hour cell of a withheld or dispatch event; a
  -- bid moved further in an hour cell, up, or down for component 8; each against what stands in the cell at that moment; or one
  -- more past violation before, between or after the others. Nothing else moves, but for the past's length and the events' offset
  -- that an added violation makes 12 higher. Both cases are accepted, with the same correction and each with a rows buffer of its
  -- own that may hold anything; the cases in between may be refused. E of each party's fuel day in the case before is 0 or more.
  -- Then row by row no flag is cleared and neither multiplier nor penalty falls, and the total of penalties doesn't fall: one
  -- claim about the whole list.
  abbrev pub Demand3 : Type 0
  Demand3 = NeverCheaper EnergyNotNegative
