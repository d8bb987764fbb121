use Prim.Native.Nat.{ℕ, suc, ◌-◌, ◌≤◌, ◌<◌}
use mathlib.Core.Bool.{true, false}
use mathlib.Core.List.{List}
use mathlib.Core.Path.{◌≡◌, sym, ◌∙◌, subst}
use native.Mathlib.Nat.{le_refl}
use native.Mathlib.Omega.{arith}
use lib.Dec.{leb}
use lib.ListN.{length}
use borrow.Author.Tests.{leb-true, leb-false, le-leb}
use Rattle.std.proofs.Common.{rules, of_calls, get_or}
use Rattle.std.proofs.lemmas.Fn.{always_returns_same}
use Rattle.std.proofs.lemmas.List.{get_or_default}
use Rattle.calendar.specs.Months.{most_months, calendar_days, month_start}
use Rattle.calendar.specs.StageTable.{HasStarts}
use Rattle.calendar.proofs.MonthLaws.{InMonth, start_first, start_mono, calendar_ends, split, month_is}
use Rattle.calendar.proofs.months.month_of.Goals as goal

-- a month that begins by the day, after one that does
start_at : (xs : List ℕ) → HasStarts xs → length xs ≡ most_months → (k d : ℕ) → k < most_months → get_or xs k d ≡ month_start k
start_at xs h n k d l = get_or_default xs k d 0 (omega arith) ∙ h k l

-- the months that begin by the day stand before the others
abbrev Parted : (xs : List ℕ) (day r : ℕ) → Type 0
Parted xs day r =
    ((k : ℕ) (d : ℕ) → 0 ≤ k → k < r → leb (get_or xs k d) day ≡ true)
    × ((k : ℕ) (d : ℕ) → r ≤ k → k < length xs → leb (get_or xs k d) day ≡ false)

rise : (xs : List ℕ) (day : ℕ) → HasStarts xs → length xs ≡ most_months → (i j d : ℕ) → i ≤ j → j < length xs
    → leb (get_or xs j d) day ≡ true → leb (get_or xs i d) day ≡ true
rise xs day h n i j d l m e =
    le-leb _ _
    (omega (arith, start_at xs h n i d (omega arith), start_at xs h n j d (omega arith), start_mono i j l, leb-true _ _ e))

-- the first month begins by each day, and the month after the table's last by none of the calendar
found : (xs : List ℕ) (day r : ℕ) → HasStarts xs → length xs ≡ most_months → day < calendar_days → r ≤ length xs → Parted xs day r
    → (0 < r) × InMonth day (r - 1)
found xs day r h n l m p = (some, record { begun = begun; ends = subst (λ (k : ℕ). day < month_start k) next later })
  where
    some : 0 < r
    some =
        split r 0 (λ z. absurd (omega (arith, leb-false _ _ (p.1 0 0 z (omega arith)), start_at xs h n 0 0 (omega arith), start_first)))
        (λ s. s)

    next : r ≡ suc (r - 1)
    next = omega (arith, some)

    begun : month_start (r - 1) ≤ day
    begun = omega (arith, leb-true _ _ (p.0 (r - 1) 0 (omega arith) (omega (arith, some))), start_at xs h n (r - 1) 0 (omega (arith, some)))

    last : most_months ≤ r → day < month_start r
    last e = let full : most_months ≡ r = omega arith in subst (λ (k : ℕ). day < month_start k) full (omega (arith, calendar_ends))

    later : day < month_start r
    later =
        split most_months r last
        (λ s. omega (arith, leb-false _ _ (p.1 r 0 (le_refl r) (omega arith)), start_at xs h n r 0 s))

parted : (c : goal.After-partition_point-begun) → Parted c.args.starts.now c.args.day c.partition_point-begun.result
parted c =
    c.partition_point-begun.ensures.partitioned (λ s. leb s c.args.day) (always_returns_same _ _ _ (λ a r f k. search (rules, of_calls)))
    (rise _ c.args.day c.requires.1 c.told-starts)

in_month : (c : goal.After-partition_point-begun) → (0 < c.partition_point-begun.result) × InMonth c.args.day (c.partition_point-begun.result - 1)
in_month c = found _ _ _ c.requires.1 c.told-starts c.requires.0 c.partition_point-begun.ensures.bound (parted c)

pub overflow_sub-result : goal.overflow_sub-result
overflow_sub-result c = omega (arith, (in_month c).0)

pub returns : goal.returns
returns c =
    (sym (month_is c.args.day _ (in_month c).1), omega (arith, (in_month c).0, c.partition_point-begun.ensures.bound, c.told-starts))
