-- Bounds of the figures that the code finds in bytes and tables.
use Prim.Native.Nat.{ℕ, zero, suc, ◌+◌, ◌*◌, ◌≤◌, ◌<◌, zero-le}
use mathlib.Core.Bool.{Bool, true}
use mathlib.Core.List.{List}
use mathlib.Core.Logic.{⊎_elim}
use mathlib.Core.Path.{◌≡◌, subst, ◌∙◌}
use native.Mathlib.Nat.{mul-le-mul, eq-or-lt_of_le}
use native.Mathlib.Omega.{arith}
use lib.Dec.{eqb, eqb→eq}
use lib.ListN.{get_or}
use borrow.Author.Tests.{ne_eqb}
use Rattle.binary.specs.Bounded.{sum_to, bit_of}
use Rattle.binary.specs.Word.{positive_part, negative_part}
use Rattle.binary.proofs.Implies.{cond_bound}
use Rattle.binary.proofs.BoundedLaws.{sum_none, sum_more, sum_bound}
use Rattle.binary.proofs.WordLaws.{positive_lt, negative_le}
use Rattle.casefile.specs.declared.layout.Format.{Format}
use Rattle.casefile.specs.Layout.{most_hours, most_events}
use Rattle.casefile.specs.Decode.{events_in, cells_from}
use Rattle.party_runs.specs.StageParties.{same_run, RunEnd}
use Rattle.party_runs.proofs.PartyLaws.{run_fields}
use Rattle.sanctions.specs.Penalties.{fuel_multiplier_after}
use Rattle.sanctions.specs.StageGiven.{highest_amount, SmallAmounts, Sound}
use Rattle.sanctions.specs.StageTables.{no_sanction, hour_energy, energy_in, led_by, energy_at, tcc_at, party_share, party_day}
use Rattle.sanctions.specs.declared.fuel.PartyDay.{PartyDay}
use Rattle.sanctions.specs.declared.sanction.Sanction.{Sanction}
use Rattle.sanctions.proofs.LeaderLaws.{clash}

-- the derived default is the row of an event that has no sanction
pub none_given : (s : Sanction) → (s.multiplier ≡ 0) × ((s.n3 ≡ 0) × ((s.n2 ≡ 0) × (s.penalty ≡ 0))) → s ≡ no_sanction
unfolding no_sanction
none_given s e = λ x. record { multiplier = e.0 x; n3 = e.1.0 x; n2 = e.1.1.0 x; penalty = e.1.1.1 x }

-- the highest part of a signed word, and with it what an hour and an event add to a party-day
abbrev pub highest_part : ℕ
highest_part = 2147483648

abbrev pub hour_energies : ℕ
hour_energies = highest_amount * highest_part

abbrev pub event_energies : ℕ
event_energies = 10 * highest_part + most_hours * hour_energies

pub record Part (part : ℕ → ℕ) : Type 0 where
  pub small : (w : ℕ) → part w ≤ highest_part

pub positive_part_holds : Part (positive_part 32)
positive_part_holds = record { small = λ w. let l = positive_lt 32 w in omega arith }

pub negative_part_holds : Part (negative_part 32)
negative_part_holds = record { small = λ w. negative_le 32 w (omega arith) }

module _ (part : ℕ → ℕ) (q : Part part) (cells : List ℕ) (mask : ℕ) (small : SmallAmounts cells) where
  pub hour_small : (h : ℕ) → h < most_hours → hour_energy part cells mask h ≤ hour_energies
  unfolding hour_energy
  hour_small h l =
      cond_bound (bit_of mask h) (λ _. mul-le-mul (small h l) (q.small _)) (λ _. zero-le)

  energy_small : (Q : ℕ) → energy_in part Q cells mask ≤ event_energies
  unfolding energy_in
  energy_small Q =
      let s = sum_bound most_hours (hour_energy part cells mask) hour_energies hour_small in
      let t = q.small Q in
      omega arith

-- ---- the sums of a party-day

-- an event that event i leads is of its run; for kind 3 its amounts are small
led_run : (format : Format) (events leaders : List ℕ) (i j : ℕ) → Sound format events leaders → j < (events_in format events).count → get_or leaders j 0 ≡ i
    → same_run (events_in format events) i j ≡ true
led_run format events leaders i j s l e = subst (λ (x : ℕ). same_run (events_in format events) x j ≡ true) e (s.led j l)

pub led_amounts : (format : Format) (events leaders : List ℕ) (i j : ℕ) → (events_in format events).kind i ≡ 3 → Sound format events leaders → j < (events_in format events).count
    → get_or leaders j 0 ≡ i → SmallAmounts (cells_from format events j)
led_amounts format events leaders i j k s l e = s.fuel j l ((run_fields (events_in format events) i j (led_run format events leaders i j s l e)).kind ∙ k)

module _ (format : Format) (part : ℕ → ℕ) (q : Part part) (events leaders : List ℕ) (mask i : ℕ) (k : (events_in format events).kind i ≡ 3) (s : Sound format events leaders) where
  pub energy_led : (j : ℕ) → j < (events_in format events).count → led_by leaders i (energy_at format part events mask) j ≤ event_energies
  unfolding led_by
  energy_led j l =
      cond_bound (eqb (get_or leaders j 0) i)
      (λ t. energy_small part q (cells_from format events j) mask (led_amounts format events leaders i j k s l (eqb→eq (get_or leaders j 0) i t)) _)
      (λ _. zero-le)

  pub tcc_led : (j : ℕ) → j < (events_in format events).count → led_by leaders i (tcc_at format part events) j ≤ highest_part
  unfolding led_by
  tcc_led j l = cond_bound (eqb (get_or leaders j 0) i) (λ _. q.small _) (λ _. zero-le)

-- figures that are 0 from m on
sum_rest : (m n : ℕ) (f : ℕ → ℕ) → m ≤ n → ((j : ℕ) → m ≤ j → j < n → f j ≡ 0) → sum_to m f ≡ sum_to n f
unfolding sum_to
sum_rest m zero f l z = let e : m ≡ 0 = omega arith in rw e
sum_rest m (suc n) f l z =
    ⊎_elim
    (λ (e : m ≡ suc n). rw e)
    (λ (q : m < suc n).
    let a : sum_to m f ≡ sum_to n f = sum_rest m n f (omega arith) (λ j b c. z j b (omega arith)) in
    let b : f n ≡ 0 = z n (omega arith) (omega arith) in
    omega arith)
    (eq-or-lt_of_le l)

module _ (format : Format) (events leaders : List ℕ) (i : ℕ) (s : Sound format events leaders) (figure : ℕ → ℕ) where
  none_led : (m n : ℕ) → m ≤ n → ((j : ℕ) → m ≤ j → j < n → get_or leaders j 0 ≡ i → ⊥)
      → sum_to m (led_by leaders i figure) ≡ sum_to n (led_by leaders i figure)
  unfolding led_by
  none_led m n l others = sum_rest m n _ l (λ j a b. rw (ne_eqb _ _ (others j a b)))

  -- event i leads none before it, and none from its run's end on
  before_run : i < (events_in format events).count → 0 ≡ sum_to i (led_by leaders i figure)
  before_run l = sum_none _ ∙ none_led 0 i zero-le (λ j a b e. let q = s.before j (omega arith) in omega arith)

  after_run : (end : ℕ) → RunEnd (events_in format events) i end
      → sum_to end (led_by leaders i figure) ≡ sum_to (events_in format events).count (led_by leaders i figure)
  after_run end r =
      none_led end (events_in format events).count r.within
      (λ j a b e. clash (same_run (events_in format events) i j) (led_run format events leaders i j s b e) (r.rest j a b))

pub after_small : (prior : Bool) → fuel_multiplier_after prior ≤ 3
unfolding fuel_multiplier_after
after_small prior = cond_bound prior (λ _. omega arith) (λ _. omega arith)

-- the sums are small enough for the penalty
pub record SmallDay (d : PartyDay) : Type 0 where
  pub gain_small : d.gain ≤ 1000000000000000000
  pub loss_small : d.loss ≤ 1000000000000000000
  pub rise_small : d.rise ≤ 100000000000000000
  pub fall_small : d.fall ≤ 100000000000000000

-- one turn of the loop over the events of a party-day
abbrev pub plus : PartyDay → PartyDay → PartyDay
plus d s = record { gain = d.gain + s.gain; loss = d.loss + s.loss; rise = d.rise + s.rise; fall = d.fall + s.fall }

module _ (format : Format) (events leaders : List ℕ) (mask i : ℕ) (k : (events_in format events).kind i ≡ 3) (s : Sound format events leaders) where
  pub day_none : i < (events_in format events).count → record { gain = 0; loss = 0; rise = 0; fall = 0 } ≡ party_day format events leaders mask i i
  unfolding party_day
  day_none l =
      rw (
        ← before_run format events leaders i s (energy_at format (positive_part 32) events mask) l,
        ← before_run format events leaders i s (energy_at format (negative_part 32) events mask) l,
        ← before_run format events leaders i s (tcc_at format (positive_part 32) events) l,
        ← before_run format events leaders i s (tcc_at format (negative_part 32) events) l,
      )

  pub day_whole : (end : ℕ) → RunEnd (events_in format events) i end
      → party_day format events leaders mask i end ≡ party_day format events leaders mask i (events_in format events).count
  unfolding party_day
  day_whole end r =
      rw (
        after_run format events leaders i s (energy_at format (positive_part 32) events mask) end r,
        after_run format events leaders i s (energy_at format (negative_part 32) events mask) end r,
        after_run format events leaders i s (tcc_at format (positive_part 32) events) end r,
        after_run format events leaders i s (tcc_at format (negative_part 32) events) end r,
      )

  pub day_more : (j : ℕ) (d x : PartyDay) → d ≡ party_day format events leaders mask i j → x ≡ party_share format events leaders mask i j
      → plus d x ≡ party_day format events leaders mask i (j + 1)
  unfolding party_day party_share
  day_more j d x e f = rw (e, f) (simp sum_more)

  pub day_small : (n : ℕ) → n ≤ (events_in format events).count → n ≤ most_events → SmallDay (party_day format events leaders mask i n)
  unfolding party_day
  day_small n l few =
      let g = sum_bound n _ event_energies (λ j m. energy_led format (positive_part 32) positive_part_holds events leaders mask i k s j (omega arith)) in
      let b = sum_bound n _ event_energies (λ j m. energy_led format (negative_part 32) negative_part_holds events leaders mask i k s j (omega arith)) in
      let u = sum_bound n _ highest_part (λ j m. tcc_led format (positive_part 32) positive_part_holds events leaders mask i k s j (omega arith)) in
      let d = sum_bound n _ highest_part (λ j m. tcc_led format (negative_part 32) negative_part_holds events leaders mask i k s j (omega arith)) in
      record { gain_small = omega arith; loss_small = omega arith; rise_small = omega arith; fall_small = omega arith }
