-- The events of one day, kind and market stand together: a run.
use Prim.Native.Nat.{ℕ, ◌+◌, ◌*◌, ◌^◌, ◌≤◌, ◌<◌}
use mathlib.Core.List.{List}
use mathlib.Core.Logic.{⊎_elim}
use mathlib.Core.Path.{◌≡◌}
use native.Mathlib.Nat.{eq-or-lt_of_le, le_refl}
use native.Mathlib.Omega.{arith}
use Rattle.binary.specs.Lists.{Bytes}
use Rattle.casefile.specs.Layout.{number_limit}
use Rattle.casefile.specs.Decode.{format_in, section_of, case_in, decode}
use Rattle.limits.specs.Refusal.{event_key, refusal}
use Rattle.casefile.proofs.RecordLaws.{section_bytes}
use Rattle.limits.proofs.AcceptedLaws.{records, event_ranges, events_rise}
use Rattle.limits.proofs.RangeLaws.{event_numbers, number_lt}

-- keys in order, of which the last 28 bits are the unit and the component
leading : (x y a b : ℕ) → a < 2 ^ 28 → b < 2 ^ 28 → 2 ^ 28 * x + a ≤ 2 ^ 28 * y + b → x ≤ y
leading x y a b l m h = omega arith

last_byte : (x y a b : ℕ) → a < 256 → b < 256 → 256 * x + a ≡ 256 * y + b → a ≡ b
last_byte x y a b l m e = omega arith

module _ (f k : List ℕ) (n : ℕ) (b : Bytes f) (h : refusal f k n ≡ 0) where
  pub unit_lt : (j : ℕ) → j < (decode f).events.count → (decode f).events.unit j < number_limit
  unfolding decode case_in
  unit_lt j l =
      number_lt (format_in f) (section_of f 3) (section_bytes f 3 b)
      (event_numbers (format_in f) (section_of f 0) (section_of f 1) (section_of f 3) (records f k n h).numbers_fine_holds) j l

  -- day, kind and market in one number
  abbrev run : ℕ → ℕ
  run i = 256 * (256 * (decode f).events.day i + (decode f).events.kind i) + (decode f).events.market i

  behind : (i : ℕ) → i < (decode f).events.count → 2 ^ 8 * (decode f).events.unit i + (decode f).events.component i < 2 ^ 28
  behind i l = let c = (event_ranges f k n h i l).component in omega (arith, unit_lt i l)

  runs_rise : (i j : ℕ) → i ≤ j → j < (decode f).events.count → run i ≤ run j
  unfolding event_key
  runs_rise i j l m =
      ⊎_elim (λ (e : i ≡ j). rw e (le_refl _))
      (λ (lt : i < j).
      let r = events_rise f k n h i j lt m in
      leading (run i) (run j) _ _ (behind i (omega arith)) (behind j m) (omega arith))
      (eq-or-lt_of_le l)

  pub runs_together : (i j m : ℕ) → i ≤ j → j ≤ m → m < (decode f).events.count
      → (decode f).events.day i ≡ (decode f).events.day m → (decode f).events.kind i ≡ (decode f).events.kind m
      → (decode f).events.market i ≡ (decode f).events.market m
      → ((decode f).events.day i ≡ (decode f).events.day j) × ((decode f).events.kind i ≡ (decode f).events.kind j)
      × ((decode f).events.market i ≡ (decode f).events.market j)
  runs_together i j m l q p day kind market =
      let low = runs_rise i j l (omega arith) in
      let high = runs_rise j m q p in
      let same : run i ≡ run j = omega arith in
      let ri = event_ranges f k n h i (omega arith) in
      let rj = event_ranges f k n h j (omega arith) in
      let em : (decode f).events.market i ≡ (decode f).events.market j =
      last_byte _ _ _ _ (omega (arith, ri.market)) (omega (arith, rj.market)) same in
      let ek : (decode f).events.kind i ≡ (decode f).events.kind j =
      last_byte ((decode f).events.day i) ((decode f).events.day j) _ _ (omega (arith, ri.kind)) (omega (arith, rj.kind)) (omega arith) in
      (omega arith, ek, em)
