-- 18 and 19 of all records, from one look at each.
use Prim.Native.Nat.{ℕ, zero, suc}
use mathlib.Core.Bool.{Bool, true, false, ◌&&◌}
use mathlib.Core.Path.{◌≡◌, refl, sym, ap, ap₂, ◌∙◌}
use Rattle.binary.specs.Bounded.{all_to}
use Rattle.binary.proofs.Implies.{and_l, and_r}
use Rattle.calendar.specs.Periods.{has_period, in_calendar, is_period}
use Rattle.casefile.specs.Case.{Past, Events}
use Rattle.limits.specs.Refusal.{days_fine, periods_fine, unless}
use Rattle.limits.specs.StageRefusal.{events_in_calendar}

swap : (a b c d : Bool) → ((a && b) && (c && d)) ≡ ((a && c) && (b && d))
swap true true c d = refl
swap true false true d = refl
swap true false false d = refl
swap false b c d = refl

all_both : (n : ℕ) (p q : ℕ → Bool) → all_to n (λ i. p i && q i) ≡ (all_to n p && all_to n q)
unfolding all_to
all_both zero p q = refl
all_both (suc n) p q = ap (λ (t : Bool). t && (p n && q n)) (all_both n p q) ∙ swap (all_to n p) (all_to n q) (p n) (q n)

module _ (p : Past) (e : Events) where
  -- one look at each past entry
  abbrev pub past_in_calendar : Bool
  past_in_calendar = all_to p.count (λ i. has_period (p.entry i).day (p.entry i).period)

  pub both : (past_in_calendar && events_in_calendar e) ≡ (days_fine p e && periods_fine p e)
  unfolding has_period events_in_calendar days_fine periods_fine
  both =
      let day : ℕ → Bool = λ i. in_calendar (p.entry i).day in
      let period : ℕ → Bool = λ i. is_period (p.entry i).day (p.entry i).period in
      let event_day : ℕ → Bool = λ i. in_calendar (e.day i) in
      let event_period : ℕ → Bool = λ i. is_period (e.day i) (e.period i) in
      ap₂ ◌&&◌ (all_both p.count day period) (all_both e.count event_day event_period)
      ∙ swap (all_to p.count day) (all_to p.count period) (all_to e.count event_day) (all_to e.count event_period)

  pub none_broken : (past_in_calendar && events_in_calendar e) ≡ true → 0 ≡ unless (days_fine p e) 18 (unless (periods_fine p e) 19 0)
  none_broken h =
      let t = sym both ∙ h in
      rw (and_l (days_fine p e) (periods_fine p e) t, and_r (days_fine p e) (periods_fine p e) t)

  pub period_broken : (past_in_calendar && events_in_calendar e) ≡ false → days_fine p e ≡ true → 19 ≡ unless (days_fine p e) 18 (unless (periods_fine p e) 19 0)
  period_broken h d =
      let t : periods_fine p e ≡ false = rw d at (sym both ∙ h) in
      rw (d, t)

  pub day_broken : days_fine p e ≡ false → 18 ≡ unless (days_fine p e) 18 (unless (periods_fine p e) 19 0)
  day_broken d = rw d

  -- where neither is broken the events are in the calendar
  pub events_dated : days_fine p e ≡ true → periods_fine p e ≡ true → events_in_calendar e ≡ true
  events_dated d q = and_r past_in_calendar (events_in_calendar e) (both ∙ rw (d, q))
