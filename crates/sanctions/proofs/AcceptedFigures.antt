-- What the checks of a case give to its penalties: the ranges of its figures.
use Prim.Native.Nat.{ℕ, ◌<◌}
use mathlib.Core.List.{List}
use mathlib.Core.Path.{◌≡◌}
use native.Mathlib.Nat.{le_refl}
use native.Mathlib.Omega.{arith}
use Rattle.binary.proofs.WordLaws.{within_positive}
use Rattle.tariff.specs.Ranges.{highest_price, highest_price_change, highest_fuel_money}
use Rattle.casefile.specs.declared.layout.Format.{Format}
use Rattle.casefile.specs.Layout.{most_hours}
use Rattle.casefile.specs.Decode.{format_in, section_of, events_in, case_in, decode}
use Rattle.limits.specs.Refusal.{refusal}
use Rattle.limits.proofs.AcceptedLaws as case
use Rattle.limits.proofs.SectionLaws.{event_ranges, cell_ranges, amount_bound}
use Rattle.sanctions.specs.StageGiven.{Accepted}
use Rattle.sanctions.proofs.PenaltyBounds.{Ranges}

module _ (format : Format) (u p e : List ℕ) (acc : Accepted format u p e) where
  pub bare_component : (i : ℕ) → i < (events_in format e).count → (events_in format e).kind i ≡ 3 → (events_in format e).component i ≡ 0
  bare_component i l k = (event_ranges format e acc.events_fine_holds i l).plain (omega arith)

  pub ranges : (r : List ℕ) → Ranges (case_in format u r p e)
  unfolding case_in events_in
  ranges r =
      record {
        count = acc.few_events;
        hours = λ i. le_refl most_hours;
        withheld = λ i h l m k. (
          amount_bound format u e acc.units_fine_holds acc.events_listed_holds acc.amounts_fine_holds i h l m (omega arith),
          within_positive 32 highest_price _ ((cell_ranges format e acc.events_fine_holds i h l m).withheld k),
        );
        dispatch = λ i h l m k. (cell_ranges format e acc.events_fine_holds i h l m).dispatch k;
        fuel = λ i h l m k.
            let v = (cell_ranges format e acc.events_fine_holds i h l m).fuel k in
            (v.0, within_positive 32 highest_price_change _ v.1);
        money = λ i l k. let v = event_ranges format e acc.events_fine_holds i l in (within_positive 32 highest_fuel_money _ (v.guarantee k), within_positive 32 highest_fuel_money _ (v.congestion k));
      }

-- a case that breaks no limit is accepted
pub accepted : (f k : List ℕ) (n : ℕ) → refusal f k n ≡ 0 → Accepted (format_in f) (section_of f 0) (section_of f 2) (section_of f 3)
unfolding decode case_in
accepted f k n h =
    let records = case.records f k n h in
    let fields = case.fields f k n h in
    let found = case.found f k n h in
    record {
      few_past = case.past_count f k n h;
      few_events = case.events_count f k n h;
      units_fine_holds = records.units_fine_holds;
      events_fine_holds = fields.events_fine_holds;
      days_fine_holds = fields.days_fine_holds;
      order_fine_holds = fields.order_fine_holds;
      events_listed_holds = found.events_listed_holds;
      amounts_fine_holds = found.amounts_fine_holds;
    }
