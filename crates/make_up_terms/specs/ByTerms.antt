-- The figures are the row's, the make-up follows from its terms, and a restored hour has its own bid in force (docs/RULES.md, R15).
use Rattle.std.specs.Prelude.{ℕ, ◌<◌, true, List, ◌≡◌, get_or}
use Rattle.binary.specs.Bounded.{sum_to, bit_of}
use Rattle.tariff.specs.DefaultBidRules.{make_up}
use Rattle.casefile.specs.Layout.{most_hours}
use Rattle.casefile.specs.Case.{References, Case}
use Rattle.casefile.specs.Decode.{decode}
use Rattle.casefile.specs.Lookup.{correct_in}
use Rattle.default_bids.specs.Mitigation.{mitigated_mask, bid_in_force, make_up_of}
use Rattle.make_up_terms.specs.declared.make_up_working.MakeUpWorking.{MakeUpWorking}
use Rattle.make_up_terms.specs.MakeUpWorking.{make_up_working_of}

pub record MakeUpByTerms (c : Case) (correct : References) (i : ℕ) (w : MakeUpWorking) : Type 0 where
  pub of_the_row : (w.mitigated ≡ mitigated_mask c i) × (w.make_up ≡ make_up_of c correct i)
  pub summed : sum_to most_hours (λ h. get_or w.hours h 0) ≡ w.tenths
  pub due : w.make_up ≡ make_up w.reference w.correct w.tenths
  pub in_force_holds : (h : ℕ) → h < most_hours → bit_of w.restored h ≡ true → bid_in_force c correct i h ≡ c.a i h

-- of every working that is given
abbrev pub ByTerms : Type 0
ByTerms =
    (file correction : List ℕ) (event : ℕ)
    → (make_up_working_of file correction event).number ≡ 0
    → MakeUpByTerms (decode file) (correct_in file correction) event (make_up_working_of file correction event)
