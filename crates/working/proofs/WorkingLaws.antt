-- The figures that the stages leave are those of the case.
use Prim.Native.Nat.{ℕ, ◌≤◌, ◌<◌}
use mathlib.Core.Bool.{Bool, true, false, cond, ◌&&◌, ◌||◌}
use mathlib.Core.List.{List, []}
use mathlib.Core.Path.{◌≡◌, refl, ap₂, ◌∙◌}
use native.Mathlib.Omega.{arith}
use borrow.Author.Tests.{ltb-true, eqb-true, eq-eqb, ne_eqb}
use lib.Dec.{ltb, eqb}
use lib.ListN.{get_or}
use Rattle.binary.specs.Bounded.{bit_of}
use Rattle.binary.specs.Lists.{Holds}
use Rattle.binary.proofs.Implies.{and_l, and_r}
use Rattle.binary.proofs.BoundedLaws.{sum_same}
use Rattle.binary.proofs.MaskLaws.{bit_mask}
use Rattle.tariff.specs.StageSums.{highest_sum}
use Rattle.casefile.specs.declared.layout.Format.{Format}
use Rattle.casefile.specs.Layout.{most_hours}
use Rattle.casefile.specs.Case.{Case}
use Rattle.casefile.specs.Decode.{format_in, section_of, events_in, case_in, decode}
use Rattle.casefile.specs.Lookup.{unit_of, group_of, bid_level, together}
use Rattle.casefile.proofs.RecordLaws.{count_is}
use Rattle.limits.specs.Refusal.{refusal, most_rows}
use Rattle.limits.specs.StageChecked.{AcceptedFile}
use Rattle.party_runs.specs.StageParties.{leader_of}
use Rattle.party_runs.proofs.PartyLaws.{together_fields, leader_le, leader_eqb}
use Rattle.conduct.specs.Flags.{sum_together, time_bid, time_total, group_capability, group_sum, flagged, flag_mask}
use Rattle.conduct.specs.StageFlags.{HasRow, party_figure, led_sum, party_sum, listed_capability, time_total_in, total_read, Led}
use Rattle.conduct.proofs.SumLaws.{cond_le, cond_given, sum_amounts}
use Rattle.conduct.proofs.FileLaws.{total_is, file_led}
use Rattle.instance_counts.specs.declared.instances.Instances.{Instances}
use Rattle.instance_counts.specs.StageInstances.{instances_at}
use Rattle.sanctions.specs.StageGiven.{Accepted, FoundMasks}
use Rattle.sanctions.proofs.AcceptedFigures as sanctions
use Rattle.sanctions.proofs.FoundLaws.{instances_are}
use Rattle.working.specs.declared.figures.Sums.{Sums}
use Rattle.working.specs.declared.figures.Figures.{Figures}
use Rattle.working.specs.declared.figures.Counts.{Counts}
use Rattle.working.specs.declared.figures.Working.{Working}
use Rattle.working.specs.Working.{fuel_events, sums_of, total_of, figures_with, figures_of, working_from, counts_of, working_at, refused_working, working_of}

-- ---- sums of a party-day

pub fuel_sum : (c : Case) (i h : ℕ) → c.events.kind i ≡ 3 → party_sum c i h ≡ fuel_events c i h
unfolding party_sum fuel_events sum_together party_figure
fuel_sum c i h k =
    sum_same c.events.count _ _
    (λ j l.
    cond_given (together c i j) _ _
    (λ t.
    let s = together_fields c i j t in
    let yes : eqb (c.events.kind j) 3 ≡ true = eq-eqb _ _ (s.kind ∙ k) in
    rw yes))

group_sum_is : (c : Case) (i h : ℕ) → (c.events.kind i ≡ 3 → ⊥) → party_sum c i h ≡ group_sum c i h
unfolding party_sum sum_together
group_sum_is c i h n = sum_amounts c i h n

module _ (c : Case) (i h sum : ℕ) (held : (c.events.kind i ≡ 4 → ⊥) → sum ≡ party_sum c i h) where
  amounts : (k : ℕ) → k < 3 → c.events.kind i ≡ k → sum ≡ group_sum c i h
  amounts k l e =
      held (λ q. let z : ⊥ = omega arith in z)
      ∙ group_sum_is c i h (λ q. let z : ⊥ = omega arith in z)

  amounts_where : cond (eqb (c.events.kind i) 1 || eqb (c.events.kind i) 2) sum 0
      ≡ cond (eqb (c.events.kind i) 1 || eqb (c.events.kind i) 2) (group_sum c i h) 0
  amounts_where = pick (eqb (c.events.kind i) 1) (eqb (c.events.kind i) 2) refl refl
    where
      pick : (one two : Bool) → eqb (c.events.kind i) 1 ≡ one → eqb (c.events.kind i) 2 ≡ two
          → cond (one || two) sum 0 ≡ cond (one || two) (group_sum c i h) 0
      pick true two p q = amounts 1 (omega arith) (eqb-true _ _ p)
      pick false true p q = amounts 2 (omega arith) (eqb-true _ _ q)
      pick false false p q = refl

  fuel_where : cond (eqb (c.events.kind i) 3) sum 0 ≡ cond (eqb (c.events.kind i) 3) (fuel_events c i h) 0
  fuel_where =
      cond_given (eqb (c.events.kind i) 3) _ _
      (λ t.
      let k = eqb-true (c.events.kind i) 3 t in
      held (λ q. let z : ⊥ = omega arith in z) ∙ fuel_sum c i h k)

  pub sums_are : (kind x y z : ℕ) → kind ≡ c.events.kind i → sum ≤ highest_sum → x ≡ cond (eqb kind 1 || eqb kind 2) sum 0
      → y ≡ cond (eqb (c.events.kind i) 1) (group_capability c i) 0 → z ≡ cond (eqb kind 3) sum 0
      → (record { s = x; g = y; fuel_events = z } ≡ sums_of c i h) × (x ≤ highest_sum)
  unfolding sums_of
  sums_are kind x y z ek l ex ey ez =
      (rw (ex, ey, ez, ek, amounts_where, fuel_where), rw ex (cond_le (eqb kind 1 || eqb kind 2) sum highest_sum l))

-- ---- the events of a file

module _ (format : Format) (f e : List ℕ) (ef : format ≡ format_in f) (ee : e ≡ section_of f 3) where
  figure_is : (j h : ℕ) → party_figure (case_in format [] [] [] e) j h ≡ party_figure (decode f) j h
  unfolding party_figure decode case_in
  figure_is j h = rw (ef, ee)

  module _ (leaders : List ℕ) (led : Holds (decode f).events.count leaders (leader_of (decode f))) where
    pub leader_below : (i : ℕ) → i < (decode f).events.count → get_or leaders i 0 < (events_in format e).count
    leader_below i l = let q = leader_le (decode f) i in let t = led i l in let n = count_is format f e ef ee in omega arith

    same_leader : (i j : ℕ) → i < (decode f).events.count → j < (decode f).events.count → ((decode f).events.kind i ≡ 4 → ⊥)
        → eqb (get_or leaders j 0) (get_or leaders i 0) ≡ together (decode f) i j
    same_leader i j l m n = rw (led j m, led i l) (leader_eqb (decode f) i j n)

    -- the sum of event i's leader is its own
    pub led_sum_is : (row : List ℕ) (i h : ℕ) → HasRow (led_sum (case_in format [] [] [] e) leaders (events_in format e).count (get_or leaders i 0)) row
        → i < (decode f).events.count → h < most_hours → ((decode f).events.kind i ≡ 4 → ⊥) → get_or row h 0 ≡ party_sum (decode f) i h
    unfolding led_sum party_sum sum_together
    led_sum_is row i h r l m n =
        rw (r.each h m, count_is format f e ef ee)
        (sum_same (decode f).events.count _ _
        (λ j q. ap₂ (λ (b : Bool) (x : ℕ). cond b x 0) (same_leader i j l q n) (figure_is j h)))

  -- ---- time totals

  module _ (levels : List ℕ) (held : Holds (decode f).events.count levels (bid_level (decode f).references (decode f).events)) where
    total_case : (i h : ℕ) → time_total_in (decode f) levels i h ≡ time_total (decode f) i h
    unfolding decode case_in
    total_case i h = total_is (format_in f) (section_of f 0) (section_of f 1) (section_of f 2) (section_of f 3) levels held i h

    read_sections : (i h : ℕ) → total_read (case_in format [] [] [] e) levels i h ≡ total_read (decode f) levels i h
    unfolding total_read time_total_in time_bid decode case_in
    read_sections i h = rw (ef, ee)

    total_of_is : (i h : ℕ) → total_read (case_in format [] [] [] e) levels i h ≡ total_of (decode f) i h
    unfolding total_read total_of
    total_of_is i h = read_sections i h ∙ rw (total_case i h)

    pub figures_full : (i h total : ℕ) (sums : Sums) (g : Figures) → i < (decode f).events.count
        → g ≡ figures_with (decode f) i h (get_or levels i 0) sums total → sums ≡ sums_of (decode f) i h
        → total ≡ total_read (case_in format [] [] [] e) levels i h → g ≡ figures_of (decode f) i h
    unfolding figures_of
    figures_full i h total sums g l eg es et = eg ∙ rw (es, et, total_of_is i h, held i l)

-- ---- its units and events

module _ (format : Format) (f u e : List ℕ) (ef : format ≡ format_in f) (eu : u ≡ section_of f 0) (ee : e ≡ section_of f 3) where
  leader_case : (i : ℕ) → leader_of (decode f) i ≡ leader_of (case_in format u [] [] e) i
  unfolding leader_of together group_of unit_of decode case_in
  leader_case i = rw (ef, eu, ee)

  pub listed_is : (i : ℕ) → listed_capability (case_in format u [] [] e) i ≡ cond (eqb ((decode f).events.kind i) 1) (group_capability (decode f) i) 0
  unfolding listed_capability group_capability group_of unit_of decode case_in
  listed_is i = rw (ef, eu, ee)

  pub found_led : AcceptedFile f → (places leaders : List ℕ) → Holds (decode f).events.count places (unit_of (decode f))
      → Holds (decode f).events.count leaders (leader_of (decode f)) → Led format u e places leaders
  found_led acc places leaders placed led =
      file_led f acc format u e ef eu ee places leaders placed (λ i l. led i (rw (count_is format f e ef ee) at l) ∙ leader_case i)

-- ---- the working

module _ (f : List ℕ) (acc : AcceptedFile f) where
  sections : Accepted (format_in f) (section_of f 0) (section_of f 2) (section_of f 3)
  sections = sanctions.accepted f acc.correction acc.rows_length acc.accepted

  pub counts_are : (format : Format) (p e groups leaders masks : List ℕ) (i : ℕ) (x : Instances) → format ≡ format_in f → p ≡ section_of f 2 → e ≡ section_of f 3
      → FoundMasks (decode f) (decode f).events.count groups leaders masks → i < (decode f).events.count
      → x ≡ instances_at format p e groups masks i → record { n3 = x.n3; n2 = x.n2 } ≡ counts_of (decode f) i
  unfolding counts_of decode case_in
  counts_are format p e groups leaders masks i x ef ep ee found l q =
      rw (q, ef, ep, ee, instances_are (format_in f) (section_of f 0) (section_of f 1) (section_of f 2) (section_of f 3) groups leaders masks sections found i l) refl

pub flag_is : (f : List ℕ) (i h mask : ℕ) → mask ≡ flag_mask (decode f) i → h < most_hours → bit_of mask h ≡ flagged (decode f) i h
unfolding flag_mask decode case_in events_in
flag_is f i h mask q l = rw q (bit_mask most_hours h (flagged (decode f) i) l)

pub small_s : (c : Case) (i h reference total : ℕ) (sums : Sums) (f : Figures) → f ≡ figures_with c i h reference sums total
    → sums.s ≤ highest_sum → f.s ≤ highest_sum
unfolding figures_with
small_s c i h reference total sums f e l = rw e l

pub working_full : (c : Case) (i h : ℕ) (f : Figures) (flag : Bool) (counts : Counts) (w : Working) → w ≡ working_from f flag counts
    → f ≡ figures_of c i h → flag ≡ flagged c i h → counts ≡ counts_of c i → w ≡ working_at c i h
unfolding working_at
working_full c i h f flag counts w e ef eg ec = e ∙ rw (ef, eg, ec)

-- ---- the answer

pub inside : (i n h : ℕ) → (ltb i n && ltb h most_hours) ≡ true → (i < n) × (h < most_hours)
inside i n h t = (ltb-true i n (and_l (ltb i n) (ltb h most_hours) t), ltb-true h most_hours (and_r (ltb i n) (ltb h most_hours) t))

module _ (f k : List ℕ) (i h : ℕ) where
  pub refused_is : (number : ℕ) → number ≡ refusal f k (most_rows f) → (number ≡ 0 → ⊥) → refused_working number ≡ working_of f k i h
  unfolding working_of
  refused_is number e n = rw (← e, ne_eqb number 0 n) refl

  pub working_is : refusal f k (most_rows f) ≡ 0 → (ltb i (decode f).events.count && ltb h most_hours) ≡ true → working_at (decode f) i h ≡ working_of f k i h
  unfolding working_of
  working_is fine t = rw (eq-eqb _ _ fine, t)

  pub outside_is : refusal f k (most_rows f) ≡ 0 → (ltb i (decode f).events.count && ltb h most_hours) ≡ false → refused_working 10 ≡ working_of f k i h
  unfolding working_of
  outside_is fine t = rw (eq-eqb _ _ fine, t)
