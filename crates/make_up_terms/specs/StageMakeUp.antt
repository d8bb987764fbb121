-- The terms as the code finds them: from an event's mitigated mask, its unit's place, r and c.
use Rattle.std.specs.Prelude.{ℕ, Bool, cond, not, ◌&&◌, List, eqb, replicate}
use Rattle.binary.specs.Bounded.{sum_to, mask_to, bit_of}
use Rattle.binary.specs.Lists.{list_to}
use Rattle.tariff.specs.DefaultBidRules.{restores}
use Rattle.casefile.specs.declared.layout.Format.{Format}
use Rattle.casefile.specs.Layout.{most_hours}
use Rattle.casefile.specs.Decode.{format_in, section_of, cells_from, events_in, decode}
use Rattle.casefile.specs.Lookup.{unit_of, bid_level}
use Rattle.default_bids.specs.Mitigation.{mitigated_mask}
use Rattle.default_bids.specs.StageFigures.{fails_with, tenths_at, make_up_by}
use Rattle.make_up_terms.specs.declared.make_up_working.MakeUpWorking.{MakeUpWorking}
use Rattle.make_up_terms.specs.declared.make_up_working.MakeUpTerms.{MakeUpTerms}

-- an hour of the mitigated ones that is not among the failing
unfoldable pub restored_in : (mitigated failing : ℕ) → ℕ → Bool
restored_in mitigated failing h = bit_of mitigated h && not (bit_of failing h)

-- the restored hours, where c restores bids of the component
unfoldable pub restored_by : Format → (units events : List ℕ) (place r c mitigated i : ℕ) → ℕ
restored_by format u s place r c mitigated i =
    cond (restores ((events_in format s).component i) r c)
    (mask_to most_hours (λ h. bit_of mitigated h && not (fails_with format u s place c i h)))
    0

-- the hours' make-ups and their sum, of a bid on energy
unfoldable pub terms_by : Format → (events : List ℕ) (i c mitigated : ℕ) → MakeUpTerms
terms_by format s i c mitigated =
    cond (eqb ((events_in format s).kind i) 4 && eqb ((events_in format s).component i) 0)
    (record {
      sum = sum_to most_hours (tenths_at (cells_from format s i) c mitigated);
      hours = list_to most_hours (tenths_at (cells_from format s i) c mitigated);
    })
    (record { sum = 0; hours = replicate most_hours 0 })

-- the working of event i with this c
unfoldable pub make_up_working_in : (file : List ℕ) (c i : ℕ) → MakeUpWorking
make_up_working_in f c i =
    record {
      number = 0;
      reference = bid_level (decode f).references (decode f).events i;
      correct = c;
      mitigated = mitigated_mask (decode f) i;
      restored =
          restored_by (format_in f) (section_of f 0) (section_of f 3) (unit_of (decode f) i) (bid_level (decode f).references (decode f).events i) c
          (mitigated_mask (decode f) i) i;
      tenths = (terms_by (format_in f) (section_of f 3) i c (mitigated_mask (decode f) i)).sum;
      make_up =
          make_up_by (format_in f) (section_of f 3) i (bid_level (decode f).references (decode f).events i) c (mitigated_mask (decode f) i);
      hours = (terms_by (format_in f) (section_of f 3) i c (mitigated_mask (decode f) i)).hours;
    }
