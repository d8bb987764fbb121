-- The terms as the code finds them in an event's cells, and in the tables of flags and leaders.
use Rattle.std.specs.Prelude.{ℕ, ◌-◌, ◌*◌, ◌^◌, ◌≤◌, ◌<◌, false, cond, ◌||◌, List, ltb, eqb, get_or}
use Rattle.binary.specs.Bounded.{sum_to}
use Rattle.binary.specs.Word.{positive_part, negative_part}
use Rattle.tariff.specs.SanctionRules.{fuel_charge, least_charge}
use Rattle.casefile.specs.declared.layout.Format.{Format}
use Rattle.casefile.specs.Layout.{most_hours}
use Rattle.casefile.specs.Decode.{events_in}
use Rattle.sanctions.specs.StageGiven.{highest_amount}
use Rattle.sanctions.specs.StageTables.{hour_energy, hour_revenue, party_day}
use Rattle.sanctions.specs.declared.fuel.PartyDay.{PartyDay}
use Rattle.penalty_terms.specs.declared.penalty_working.FuelTerms.{FuelTerms}

-- what hour h adds, and takes from E
unfoldable pub term_in : (kind : ℕ) (cells : List ℕ) (mask h : ℕ) → ℕ
term_in kind cells mask h =
    cond (eqb kind 2) (hour_revenue cells mask h) (cond (eqb kind 1 || eqb kind 3) (hour_energy (positive_part 32) cells mask h) 0)

unfoldable pub loss_in : (kind : ℕ) (cells : List ℕ) (mask h : ℕ) → ℕ
loss_in kind cells mask h = cond (eqb kind 3) (hour_energy (negative_part 32) cells mask h) 0

-- no term of an hour is above this
abbrev pub highest_term : ℕ
highest_term = highest_amount * 2 ^ 31

abbrev pub SmallTerms : (terms : List ℕ) → Type 0
SmallTerms terms = (h : ℕ) → h < most_hours → get_or terms h 0 ≤ highest_term

-- the terms of the hours, added, of an event of kind k
unfoldable pub added_in : (k kind : ℕ) (terms : List ℕ) → ℕ
added_in k kind terms = cond (eqb kind k) (sum_to most_hours (λ h. get_or terms h 0)) 0

-- the terms of a party-day under M
unfoldable pub fuel_of : (M : ℕ) → PartyDay → FuelTerms
fuel_of M d =
    record {
      e_positive = d.gain - d.loss;
      e_negative = d.loss - d.gain;
      t = d.rise - d.fall;
      x = fuel_charge M d.gain d.loss (d.rise - d.fall);
      below = ltb (fuel_charge M d.gain d.loss (d.rise - d.fall)) least_charge;
    }

-- of an event of another kind
unfoldable pub no_fuel : FuelTerms
no_fuel = record { e_positive = 0; e_negative = 0; t = 0; x = 0; below = false }

-- the terms of the party-day that the row's event leads
unfoldable pub fuel_in : Format → (events leaders masks : List ℕ) (kind M row : ℕ) → FuelTerms
fuel_in format events leaders masks kind M row =
    cond (eqb kind 3) (fuel_of M (party_day format events leaders (get_or masks row 0) row (events_in format events).count)) no_fuel
