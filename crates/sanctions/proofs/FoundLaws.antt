-- What the code finds in bytes and tables is what the definitions say of the case.
use Prim.Native.Nat.{ℕ, ◌+◌, ◌*◌, ◌≤◌, ◌<◌}
use mathlib.Core.Bool.{Bool, true, false, cond, ◌&&◌, ◌||◌}
use mathlib.Core.List.{List}
use mathlib.Core.Path.{◌≡◌, refl, sym, ap, ap₂, ◌∙◌}
use native.Mathlib.Nat.{zero-mul}
use native.Mathlib.Omega.{arith}
use lib.Dec.{eqb}
use lib.ListN.{length, get_or, set}
use borrow.Author.Tests.{eqb-true, ne_eqb}
use Rattle.binary.specs.Bounded.{sum_to, count_to, bit_of}
use Rattle.binary.specs.Lists.{Holds}
use Rattle.binary.specs.Word.{positive_part, negative_part}
use Rattle.binary.proofs.Implies.{and_l, and_r}
use Rattle.binary.proofs.BoundedLaws.{sum_more, sum_same, sum_bound, count_same, any_same}
use Rattle.binary.proofs.MaskLaws.{bit_mask, mask_any}
use Rattle.binary.proofs.ListLaws.{holds_more}
use Rattle.tariff.specs.SanctionRules.{cents, ladder, withheld_penalty}
use Rattle.casefile.specs.declared.layout.Format.{Format}
use Rattle.casefile.specs.Layout.{most_hours, most_events}
use Rattle.casefile.specs.Case.{Case}
use Rattle.casefile.specs.Decode.{past_in, events_in, case_in, cells_from, cells_in}
use Rattle.casefile.specs.Lookup.{group_of}
use Rattle.casefile.specs.StageRead.{cell_of}
use Rattle.limits.proofs.RangeLaws.{event_day}
use Rattle.party_runs.specs.StageParties.{RunsTogether, leader_of}
use Rattle.party_runs.proofs.PartyLaws.{fields_run, together_fields, leader_le, leader_together}
use Rattle.conduct.specs.Flags.{sum_together, fuel_flag, flagged, flag_mask}
use Rattle.conduct.proofs.SumLaws.{cell_amount}
use Rattle.instance_counts.specs.StageInstances.{with_impact, instance_at, instance_of, row_counts, entry_of, entry_counts, instances_here, instances_past, instances_at}
use Rattle.instance_counts.specs.declared.instances.Instances.{Instances}
use Rattle.sanctions.specs.Penalties.{flagged_with_impact, is_instance, counts_here, counts_past, instances, n3, n2, withheld_multiplier, withheld_amount, withheld_penalty_of, dispatch_multiplier, dispatch_revenue, dispatch_penalty_of, energy_part, gain, loss, tcc_change, lowest_unit, past_fuel, fuel_multiplier_after, fuel_penalty_under, fuel_multiplier, fuel_penalty_of, multiplier, penalty, counts_fuel_here}
use Rattle.sanctions.specs.StageGiven.{Accepted, FoundMasks, Sound, highest_penalty}
use Rattle.sanctions.specs.StageTables.{hour_energy, hour_revenue, no_sanction, instance_row, withheld_row, dispatch_row, energy_in, led_by, energy_at, tcc_at, party_day, fuel_row_counts, fuel_entry_counts, multiplier_at, party_penalty, fuel_row, row_at, sanction_of}
use Rattle.sanctions.specs.declared.sanction.Sanction.{Sanction}
use Rattle.sanctions.proofs.InstanceLaws.{instances_positive}
use Rattle.sanctions.proofs.PenaltyBounds.{penalty_bound}
use Rattle.sanctions.proofs.LeaderLaws.{leads, lowest_leader}
use Rattle.sanctions.proofs.PriorLaws.{prior_rows}
use Rattle.sanctions.proofs.AcceptedFigures.{bare_component, ranges}

-- b of event i and hour h, read in the part where its cells begin
cell_price : (format : Format) (e : List ℕ) (i h : ℕ) → (cell_of (cells_from format e i) h).b ≡ (events_in format e).b i h
unfolding cell_of cells_in events_in
cell_price format e i h = refl

no_multiplier : (x : ℕ) → withheld_penalty 0 x ≡ 0
unfolding withheld_penalty cents
no_multiplier x = rw (zero-mul x)

-- the row of event i by its figures
abbrev row : (m n k p : ℕ) → Sanction
row m n k p = record { multiplier = m; n3 = n; n2 = k; penalty = p }

-- N3 and N2
abbrev counts : (x y : ℕ) → Instances
counts x y = record { n3 = x; n2 = y }

pick : (b1 b2 b3 : Bool) (W D F : Sanction) (wm dm fm x y wp dp fp : ℕ)
    → W ≡ row wm x y wp → (b1 ≡ false → (x ≡ 0) × (y ≡ 0)) → D ≡ row dm 0 0 dp → (b3 ≡ true → F ≡ row fm 0 0 fp)
    → cond b1 W (cond b2 D (cond b3 F (row 0 0 0 0)))
    ≡ row (cond b1 wm (cond b2 dm (cond b3 fm 0))) x y (cond b1 wp (cond b2 dp (cond b3 fp 0)))
pick true b2 b3 W D F wm dm fm x y wp dp fp w z d f = w
pick false true b3 W D F wm dm fm x y wp dp fp w z d f = rw ((z refl).0, (z refl).1) d
pick false false true W D F wm dm fm x y wp dp fp w z d f = rw ((z refl).0, (z refl).1) (f refl)
pick false false false W D F wm dm fm x y wp dp fp w z d f = rw ((z refl).0, (z refl).1)

-- ---- the hours of a flag mask

module _ (format : Format) (u r p e : List ℕ) where
  bit_is : (i h mask : ℕ) → mask ≡ flag_mask (case_in format u r p e) i → h < most_hours → bit_of mask h ≡ flagged (case_in format u r p e) i h
  unfolding flag_mask case_in events_in
  bit_is i h mask q m = rw q (bit_mask most_hours h (flagged (case_in format u r p e) i) m)

  -- of kind 3 these are the union hours
  union_bit : (i h mask : ℕ) → mask ≡ flag_mask (case_in format u r p e) i → h < most_hours → (events_in format e).kind i ≡ 3
      → bit_of mask h ≡ fuel_flag (case_in format u r p e) i h
  unfolding flagged case_in
  union_bit i h mask q m k = bit_is i h mask q m ∙ rw k

  -- event j's part of E, over the hours of event i's mask
  pub energy_by : (part : ℕ → ℕ) (i j mask : ℕ) → mask ≡ flag_mask (case_in format u r p e) i → (events_in format e).kind i ≡ 3
      → energy_at format part e mask j ≡ energy_part part (case_in format u r p e) i j
  unfolding energy_in hour_energy energy_part case_in events_in
  energy_by part i j mask q k =
      ap (λ (x : ℕ). 10 * part ((events_in format e).Q j) + x) (sum_same most_hours _ _ (λ h m. rw (union_bit i h mask q m k, cell_amount format e j h, cell_price format e j h)))

-- ---- the loop over the events

-- what a turn leaves: the row of event i, its penalty in the table and in the total
pub record SanctionTurn (c : Case) (i total : ℕ) (s : Sanction) (penalties : List ℕ) : Type 0 where
  pub row : s ≡ sanction_of c i
  pub held : Holds (i + 1) (set penalties i s.penalty) (penalty c)
  pub summed : total + s.penalty ≡ sum_to (i + 1) (penalty c)
  pub fits : total + s.penalty ≤ most_events * highest_penalty

module _ (format : Format) (u r p e groups leaders masks : List ℕ) (acc : Accepted format u p e) (found : FoundMasks (case_in format u r p e) (events_in format e).count groups leaders masks) where
  abbrev c : Case
  c = case_in format u r p e

  abbrev n : ℕ
  n = (events_in format e).count

  mask_bit : (i h : ℕ) → i < n → h < most_hours → bit_of (get_or masks i 0) h ≡ flagged c i h
  mask_bit i h l m = bit_is format u r p e i h _ (found.mask_held i l) m

  impact_mask : (i : ℕ) → i < n → with_impact format e masks i ≡ flagged_with_impact c i
  unfolding with_impact flagged_with_impact flag_mask case_in events_in
  impact_mask i l = rw (found.mask_held i l, mask_any most_hours (flagged c i))

  -- ---- Withheld

  pub instance_mask : (i : ℕ) → i < n → instance_at format e masks i ≡ is_instance c i
  unfolding instance_at is_instance case_in
  instance_mask i l = rw (impact_mask i l)

  pub row_counts_is : (i k j : ℕ) → i < n → j < n
      → row_counts format e groups masks (get_or groups i 0) ((events_in format e).market i) ((events_in format e).period i) k j ≡ counts_here c k i j
  unfolding row_counts instance_of counts_here case_in
  row_counts_is i k j l m = rw (instance_mask j m, found.group_held j m, found.group_held i l)

  pub entry_counts_is : (i k j : ℕ) → i < n
      → entry_counts p (get_or groups i 0) ((events_in format e).market i) ((events_in format e).period i) k j ≡ counts_past c k i ((past_in p).entry j)
  unfolding entry_counts entry_of counts_past case_in
  entry_counts_is i k j l = rw (found.group_held i l)

  rows_here : (i k : ℕ) → i < n
      → count_to i (row_counts format e groups masks (get_or groups i 0) ((events_in format e).market i) ((events_in format e).period i) k) ≡ count_to i (counts_here c k i)
  rows_here i k l = count_same i _ _ (λ j m. row_counts_is i k j l (omega arith))

  entries : (i k : ℕ) → i < n
      → count_to (past_in p).count (entry_counts p (get_or groups i 0) ((events_in format e).market i) ((events_in format e).period i) k)
      ≡ count_to (past_in p).count (λ j. counts_past c k i ((past_in p).entry j))
  entries i k l = count_same (past_in p).count _ _ (λ j m. entry_counts_is i k j l)

  -- N3 and N2 of the case
  pub instances_are : (i : ℕ) → i < n → instances_at format p e groups masks i ≡ record { n3 = n3 c i; n2 = n2 c i }
  unfolding instances_at instances_here instances_past instances n3 n2 case_in
  instances_are i l =
      rw (instance_mask i l, rows_here i 2 l, rows_here i 1 l, entries i 2 l, entries i 1 l) (go (is_instance c i) _ _)
    where
      go : (b : Bool) (x y : ℕ) → cond b (counts x y) (counts 0 0) ≡ counts (cond b x 0) (cond b y 0)
      go true x y = refl
      go false x y = refl

  -- the terms of an event's own hours
  pub hour_energy_is : (part : ℕ → ℕ) (i h : ℕ) → i < n → h < most_hours
      → hour_energy part (cells_from format e i) (get_or masks i 0) h ≡ cond (flagged c i h) (c.a i h * part (c.events.b i h)) 0
  unfolding hour_energy case_in events_in
  hour_energy_is part i h l m = rw (mask_bit i h l m, cell_amount format e i h, cell_price format e i h)

  pub hour_revenue_is : (i h : ℕ) → i < n → h < most_hours
      → hour_revenue (cells_from format e i) (get_or masks i 0) h ≡ cond (flagged c i h) (c.events.b i h) 0
  unfolding hour_revenue case_in events_in
  hour_revenue_is i h l m = rw (mask_bit i h l m, cell_price format e i h)

  pub amount_is : (i : ℕ) → i < n → sum_to most_hours (hour_energy (positive_part 32) (cells_from format e i) (get_or masks i 0)) ≡ withheld_amount c i
  unfolding withheld_amount case_in events_in
  amount_is i l = sum_same most_hours _ _ (λ h m. hour_energy_is (positive_part 32) i h l m)

  withheld_is : (i : ℕ) → i < n → withheld_row format p e groups masks i ≡ row (withheld_multiplier c i) (n3 c i) (n2 c i) (withheld_penalty_of c i)
  unfolding withheld_row instance_row no_sanction withheld_multiplier n3 n2 withheld_penalty_of
  withheld_is i l =
      rw (instances_are i l, amount_is i l) (go (is_instance c i) (instances c 2 i) (instances c 1 i) (withheld_amount c i) (instances_positive c 2 i))
    where
      go : (b : Bool) (x y z : ℕ) → 1 ≤ x
          → cond (eqb (cond b x 0) 0) (row 0 0 0 0)
          (row (ladder (cond b x 0) (cond b y 0)) (cond b x 0) (cond b y 0) (withheld_penalty (ladder (cond b x 0) (cond b y 0)) z))
          ≡ row (cond b (ladder x y) 0) (cond b x 0) (cond b y 0) (withheld_penalty (cond b (ladder x y) 0) z)
      go true x y z l = rw (ne_eqb x 0 (λ e. omega arith))
      go false x y z l = ap (row 0 0 0) (sym (no_multiplier z))

  no_instance : (i : ℕ) → eqb ((events_in format e).kind i) 1 ≡ false → (n3 c i ≡ 0) × (n2 c i ≡ 0)
  unfolding n3 n2 is_instance case_in
  no_instance i k = (rw k, rw k)

  -- ---- Dispatch

  pub revenue_is : (i : ℕ) → i < n → sum_to most_hours (hour_revenue (cells_from format e i) (get_or masks i 0)) ≡ dispatch_revenue c i
  unfolding dispatch_revenue case_in events_in
  revenue_is i l = sum_same most_hours _ _ (λ h m. hour_revenue_is i h l m)

  dispatch_is : (i : ℕ) → i < n → dispatch_row format e masks i ≡ row (dispatch_multiplier c i) 0 0 (dispatch_penalty_of c i)
  unfolding dispatch_row no_sanction dispatch_multiplier dispatch_penalty_of
  dispatch_is i l = rw (impact_mask i l, revenue_is i l) (go (flagged_with_impact c i) _)
    where
      go : (b : Bool) (x : ℕ) → cond b (row 3 0 0 x) (row 0 0 0 0) ≡ row (cond b 3 0) 0 0 (cond b x 0)
      go true x = refl
      go false x = refl

  -- ---- Fuel

  led : (i : ℕ) (f g : ℕ → ℕ) → i < n → (events_in format e).kind i ≡ 3 → leader_of c i ≡ i → ((j : ℕ) → f j ≡ g j) → sum_to n (led_by leaders i f) ≡ sum_together c i g
  unfolding led_by sum_together case_in
  led i f g l k lead same = sum_same n _ _ (λ j m. rw (found.leader_held j m, leads c i j k lead, same j))

  energy_is : (part : ℕ → ℕ) (i j : ℕ) → i < n → (events_in format e).kind i ≡ 3
      → energy_at format part e (get_or masks i 0) j ≡ energy_part part c i j
  unfolding case_in
  energy_is part i j l k = energy_by format u r p e part i j _ (found.mask_held i l) k

  multiplier_is : (penalties : List ℕ) (i : ℕ) → i < n → Holds i penalties (penalty c)
      → multiplier_at format p e groups penalties i ≡ fuel_multiplier c i
  unfolding multiplier_at fuel_multiplier fuel_row_counts fuel_entry_counts counts_fuel_here past_fuel case_in
  multiplier_is penalties i l held =
      rw (found.group_held i l, prior_rows c i ((events_in format e).day i) (group_of c i))
      (ap (λ (b : Bool). fuel_multiplier_after (b || past_fuel c ((events_in format e).day i) (group_of c i)))
      (any_same i _ _ (λ j m. rw (held j m, found.group_held j (omega arith)))))

  -- the sums of the party-day that event i leads
  pub day_is : (i : ℕ) → i < n → (events_in format e).kind i ≡ 3 → leader_of c i ≡ i
      → party_day format e leaders (get_or masks i 0) i n
      ≡ record {
        gain = gain c i;
        loss = loss c i;
        rise = sum_together c i (λ j. positive_part 32 (c.events.R j));
        fall = sum_together c i (λ j. negative_part 32 (c.events.R j));
      }
  unfolding party_day gain loss case_in
  day_is i l k lead =
      rw (
        led i _ (energy_part (positive_part 32) c i) l k lead (λ j. energy_is (positive_part 32) i j l k),
        led i _ (energy_part (negative_part 32) c i) l k lead (λ j. energy_is (negative_part 32) i j l k),
        led i (tcc_at format (positive_part 32) e) (λ j. positive_part 32 (c.events.R j)) l k lead (λ j. refl),
        led i (tcc_at format (negative_part 32) e) (λ j. negative_part 32 (c.events.R j)) l k lead (λ j. refl),
      )

  fuel_is : (penalties : List ℕ) (i : ℕ) → i < n → Holds i penalties (penalty c) → (events_in format e).kind i ≡ 3 → leader_of c i ≡ i
      → fuel_row format p e groups leaders masks penalties i ≡ row (fuel_multiplier c i) 0 0 (fuel_penalty_of c i)
  unfolding fuel_row party_penalty fuel_penalty_of fuel_penalty_under tcc_change case_in
  fuel_is penalties i l held k lead = rw (multiplier_is penalties i l held, day_is i l k lead)

  -- the lowest unit's row is the leader's
  stands_is : (i : ℕ) → i < n
      → (eqb ((events_in format e).kind i) 3 && eqb (get_or leaders i 0) i) ≡ (eqb ((events_in format e).kind i) 3 && lowest_unit c i)
  unfolding case_in
  stands_is i l = go (eqb ((events_in format e).kind i) 3) refl
    where
      go : (b : Bool) → eqb ((events_in format e).kind i) 3 ≡ b → (b && eqb (get_or leaders i 0) i) ≡ (b && lowest_unit c i)
      go true k =
          rw (found.leader_held i l)
          (sym (lowest_leader c acc.order_fine_holds (λ j m q. bare_component format u p e acc j m q) i l (eqb-true _ 3 k)))
      go false k = refl

  -- ---- every kind

  -- the row that the code finds, where the penalties of the rows before it stand in the table
  pub row_is : (penalties : List ℕ) (i : ℕ) → i < n → Holds i penalties (penalty c)
      → row_at format p e groups leaders masks penalties i ≡ sanction_of c i
  unfolding row_at no_sanction multiplier penalty case_in
  row_is penalties i l held =
      rw (← stands_is i l)
      (pick (eqb ((events_in format e).kind i) 1) (eqb ((events_in format e).kind i) 2) (eqb ((events_in format e).kind i) 3 && eqb (get_or leaders i 0) i) _ _ _ _ _ _ _ _ _ _ _
      (withheld_is i l)
      (λ t. no_instance i t)
      (dispatch_is i l)
      (λ t.
      let x : eqb ((events_in format e).kind i) 3 ≡ true = and_l (eqb ((events_in format e).kind i) 3) (eqb (get_or leaders i 0) i) t in
      let y : eqb (get_or leaders i 0) i ≡ true = and_r (eqb ((events_in format e).kind i) 3) (eqb (get_or leaders i 0) i) t in
      fuel_is penalties i l held (eqb-true _ 3 x) (sym (found.leader_held i l) ∙ eqb-true _ i y)))

  pub sound : RunsTogether (events_in format e) → Sound format e leaders
  unfolding case_in events_in
  sound together =
      record {
        withheld = λ j l k h m. rw (cell_amount format e j h) ((ranges format u p e acc r).withheld j h l m k).0;
        fuel = λ j l k h m. rw (cell_amount format e j h) ((ranges format u p e acc r).fuel j h l m k).0;
        days = λ j l k. event_day (past_in p) (events_in format e) acc.days_fine_holds j l;
        runs = together;
        led = λ j l.
            let s = together_fields c j _ (leader_together c j) in
            rw (found.leader_held j l)
            (fields_run (events_in format e) (leader_of c j) j (record { kind = sym s.kind; day = sym s.day; market = sym s.market }));
        before = λ j l. rw (found.leader_held j l) (leader_le c j);
      }

  pub penalty_small : (i : ℕ) → i < n → penalty c i ≤ highest_penalty
  unfolding case_in
  penalty_small i l = penalty_bound c (ranges format u p e acc r) i l

  -- one turn of the loop over the events
  pub sanction_turn : (s : Sanction) (penalties : List ℕ) (i total : ℕ) → s ≡ row_at format p e groups leaders masks penalties i → i < n
      → i < length penalties → Holds i penalties (penalty c) → total ≡ sum_to i (penalty c) → SanctionTurn c i total s penalties
  sanction_turn s penalties i total q l b held t =
      let row : s ≡ sanction_of c i = q ∙ row_is penalties i l held in
      let own : s.penalty ≡ penalty c i = ap (λ (x : Sanction). x.penalty) row in
      let sum : total + s.penalty ≡ sum_to (i + 1) (penalty c) = ap₂ ◌+◌ t own ∙ sym (sum_more i (penalty c)) in
      let bound = sum_bound (i + 1) (penalty c) highest_penalty (λ k m. penalty_small k (omega arith)) in
      let few = acc.few_events in
      record { row = row; held = holds_more i penalties (penalty c) _ b held own; summed = sum; fits = omega arith }
