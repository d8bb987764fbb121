-- The working of a bid's make-up payment, and of the hours that a correct reference restores (docs/RULES.md, R15): the terms of D that the
-- figures of its row are made of. The references that c is found in are `correct`.
use Rattle.std.specs.Prelude.{ℕ, Bool, cond, not, ◌&&◌, List, ltb, eqb, replicate}
use Rattle.binary.specs.Bounded.{mask_to}
use Rattle.binary.specs.Lists.{list_to}
use Rattle.tariff.specs.ConductTests.{bid_test}
use Rattle.tariff.specs.DefaultBidRules.{restores, hour_make_up}
use Rattle.casefile.specs.Layout.{most_hours}
use Rattle.casefile.specs.Case.{References, Case}
use Rattle.casefile.specs.Decode.{decode}
use Rattle.casefile.specs.Lookup.{unit_of, bid_level, reads_correct, correct_in}
use Rattle.limits.specs.Refusal.{refusal, most_rows}
use Rattle.conduct.specs.Flags.{tight}
use Rattle.default_bids.specs.Mitigation.{mitigated, mitigated_mask, correct_of, make_up_tenths, make_up_of}
use Rattle.make_up_terms.specs.declared.make_up_working.MakeUpWorking.{MakeUpWorking}

-- c of a bid whose component reads it, else 0
unfoldable pub correct_read : Case → (correct : References) → ℕ → ℕ
correct_read c correct i =
    cond (eqb (c.events.kind i) 4 && reads_correct (c.events.component i)) (correct_of c correct i) 0

-- a mitigated hour whose bid is in force again (D8): components 1 and 3 with c other than r, where a passes the conduct test with c
unfoldable pub restored : Case → (correct : References) → (i h : ℕ) → Bool
restored c correct i h =
    mitigated c i h
    && (restores (c.events.component i) (bid_level c.references c.events i) (correct_of c correct i)
    && not
    (bid_test (c.events.component i) (correct_of c correct i) (c.a i h) (c.events.market i) (tight c i h)
    (c.units.average_price (unit_of c i)) (c.units.constrained_hours (unit_of c i)) 0))

-- a bid on energy, component 0, alone has a make-up
unfoldable pub energy_bid : Case → ℕ → Bool
energy_bid c i = eqb (c.events.kind i) 4 && eqb (c.events.component i) 0

-- its hour h, in tenths of a cent: m × (the lesser of a and c, less b, or 0 if negative) where the hour is mitigated
unfoldable pub hour_make_up_tenths : Case → (correct : References) → (i h : ℕ) → ℕ
hour_make_up_tenths c correct i h =
    cond (energy_bid c i)
    (cond (mitigated c i h) (hour_make_up (c.a i h) (c.events.b i h) (c.events.m i h) (correct_of c correct i)) 0)
    0

unfoldable pub make_up_working_at : Case → (correct : References) → ℕ → MakeUpWorking
make_up_working_at c correct i =
    record {
      number = 0;
      reference = bid_level c.references c.events i;
      correct = correct_read c correct i;
      mitigated = mitigated_mask c i;
      restored = mask_to (c.events.hours i) (restored c correct i);
      tenths = cond (energy_bid c i) (make_up_tenths c correct i) 0;
      make_up = make_up_of c correct i;
      hours = list_to most_hours (hour_make_up_tenths c correct i);
    }

unfoldable pub refused_make_up : (number : ℕ) → MakeUpWorking
refused_make_up n =
    record {
      number = n;
      reference = 0;
      correct = 0;
      mitigated = 0;
      restored = 0;
      tenths = 0;
      make_up = 0;
      hours = replicate most_hours 0;
    }

-- the case's refusal, else 10 where there is no such event
unfoldable pub make_up_working_of : (file correction : List ℕ) (event : ℕ) → MakeUpWorking
make_up_working_of f k i =
    cond (eqb (refusal f k (most_rows f)) 0)
    (cond (ltb i (decode f).events.count) (make_up_working_at (decode f) (correct_in f k) i) (refused_make_up 10))
    (refused_make_up (refusal f k (most_rows f)))
