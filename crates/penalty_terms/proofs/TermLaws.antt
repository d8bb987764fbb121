-- What the code finds is the working of the case.
use Prim.Native.Nat.{ℕ, ◌-◌, ◌*◌, ◌≤◌, ◌<◌}
use mathlib.Core.Bool.{Bool, true, false, cond, ◌&&◌, ◌||◌}
use mathlib.Core.List.{List}
use mathlib.Core.Path.{◌≡◌, refl, sym, ap, ◌∙◌}
use native.Mathlib.Omega.{arith}
use lib.Dec.{ltb, eqb}
use lib.ListN.{get_or}
use borrow.Author.Tests.{eqb-true, eq-eqb, ne_eqb}
use Rattle.binary.specs.Bounded.{sum_to}
use Rattle.binary.specs.Lists.{list_to, Bytes, Holds}
use Rattle.binary.specs.Word.{positive_part, negative_part}
use Rattle.binary.proofs.BoundedLaws.{sum_same}
use Rattle.binary.proofs.ListLaws.{list_same, list_at}
use Rattle.tariff.specs.SanctionRules.{least_charge}
use Rattle.casefile.specs.declared.layout.Format.{Format}
use Rattle.casefile.specs.Layout.{most_hours}
use Rattle.casefile.specs.Case.{Case}
use Rattle.casefile.specs.Decode.{format_in, section_of, cells_from, events_in, case_in, decode}
use Rattle.casefile.proofs.RecordLaws.{kind_in}
use Rattle.limits.specs.Refusal.{refusal, most_rows}
use Rattle.limits.specs.StageChecked.{AcceptedFile}
use Rattle.party_runs.specs.StageParties.{leader_of}
use Rattle.party_runs.proofs.PartyLaws.{accepted_runs, leader_le}
use Rattle.conduct.specs.Flags.{flagged}
use Rattle.sanctions.specs.declared.sanction.Sanction.{Sanction}
use Rattle.sanctions.specs.Penalties.{gain, loss, tcc_change, fuel_multiplier, multiplier, penalty, withheld_amount, dispatch_revenue}
use Rattle.sanctions.specs.StageGiven.{Accepted, FoundMasks, Sound}
use Rattle.sanctions.specs.StageTables.{row_at, sanction_of}
use Rattle.sanctions.proofs.TableLaws.{after_small}
use Rattle.sanctions.proofs.AcceptedFigures as sanctions
use Rattle.sanctions.proofs.FoundLaws as found_laws
use Rattle.penalty_terms.specs.declared.penalty_working.PenaltyWorking.{PenaltyWorking}
use Rattle.penalty_terms.specs.declared.penalty_working.FuelTerms.{FuelTerms}
use Rattle.penalty_terms.specs.PenaltyWorking.{bearer, charge_of, hour_term, hour_loss, penalty_working_at, refused_penalty, penalty_working_of}
use Rattle.penalty_terms.specs.StageTerms.{term_in, loss_in, added_in, fuel_of, no_fuel, fuel_in}
use Rattle.penalty_terms.proofs.BearerLaws.{ordered, bare, bearer_own, leader_own, leader_kind, leader_below, leader_lowest, bearer_leader}

-- ---- from its parts to the working

-- the terms of the party-day whose penalty that row bears
abbrev case_fuel : Case → (row : ℕ) → FuelTerms
case_fuel c row =
    record {
      e_positive = gain c row - loss c row;
      e_negative = loss c row - gain c row;
      t = tcc_change c row;
      x = charge_of c row;
      below = ltb (charge_of c row) least_charge;
    }

abbrev pub made : (kind row amount revenue : ℕ) (s : Sanction) (t : FuelTerms) (hours losses : List ℕ) → PenaltyWorking
made kind row amount revenue s t hours losses =
    record {
      number = 0;
      kind = kind;
      multiplier = s.multiplier;
      below = t.below;
      n3 = s.n3;
      n2 = s.n2;
      row = row;
      amount = amount;
      revenue = revenue;
      e_positive = t.e_positive;
      e_negative = t.e_negative;
      t = t.t;
      x = t.x;
      penalty = s.penalty;
      hours = hours;
      losses = losses;
    }

made_is : (c : Case) (i : ℕ) → made (c.events.kind i) (bearer c i) (cond (eqb (c.events.kind i) 1) (withheld_amount c i) 0)
    (cond (eqb (c.events.kind i) 2) (dispatch_revenue c i) 0) (sanction_of c (bearer c i))
    (cond (eqb (c.events.kind i) 3) (case_fuel c (bearer c i)) no_fuel)
    (list_to most_hours (hour_term c i)) (list_to most_hours (hour_loss c i)) ≡ penalty_working_at c i
unfolding penalty_working_at no_fuel
made_is c i = go (eqb (c.events.kind i) 3) _ _ _ _ _ _
  where
    go : (b : Bool) (kind row amount revenue : ℕ) (hours losses : List ℕ)
        → made kind row amount revenue (sanction_of c (bearer c i)) (cond b (case_fuel c (bearer c i)) no_fuel) hours losses
        ≡ record {
          number = 0;
          kind = kind;
          multiplier = (sanction_of c (bearer c i)).multiplier;
          below = b && ltb (charge_of c (bearer c i)) least_charge;
          n3 = (sanction_of c (bearer c i)).n3;
          n2 = (sanction_of c (bearer c i)).n2;
          row = row;
          amount = amount;
          revenue = revenue;
          e_positive = cond b (gain c (bearer c i) - loss c (bearer c i)) 0;
          e_negative = cond b (loss c (bearer c i) - gain c (bearer c i)) 0;
          t = cond b (tcc_change c (bearer c i)) 0;
          x = cond b (charge_of c (bearer c i)) 0;
          penalty = (sanction_of c (bearer c i)).penalty;
          hours = hours;
          losses = losses;
        }
    go true kind row amount revenue hours losses = refl
    go false kind row amount revenue hours losses = refl

no_fuel_is : (format : Format) (e leaders masks : List ℕ) (kind M row : ℕ) → eqb kind 3 ≡ false → fuel_in format e leaders masks kind M row ≡ no_fuel
unfolding fuel_in
no_fuel_is format e leaders masks kind M row t = rw t

-- the terms of the hours add to the amount, or to the revenue
pub added : (f : List ℕ) (i : ℕ) → (decode f).events.kind i ≡ 1
    → sum_to most_hours (λ x. get_or (list_to most_hours (hour_term (decode f) i)) x 0) ≡ withheld_amount (decode f) i
unfolding hour_term withheld_amount decode case_in events_in
added f i q = sum_same most_hours _ _ (λ x m. list_at (hour_term (decode f) i) most_hours x 0 m ∙ rw q)

pub revenue_added : (f : List ℕ) (i : ℕ) → (decode f).events.kind i ≡ 2
    → sum_to most_hours (λ x. get_or (list_to most_hours (hour_term (decode f) i)) x 0) ≡ dispatch_revenue (decode f) i
unfolding hour_term dispatch_revenue decode case_in events_in
revenue_added f i q = sum_same most_hours _ _ (λ x m. list_at (hour_term (decode f) i) most_hours x 0 m ∙ rw q)

given : (b : Bool) {x y : ℕ} → (b ≡ true → x ≡ y) → cond b x 0 ≡ cond b y 0
given true e = e refl
given false e = refl

-- what holds of kind 1 and of kind 3
pub either_kind : (kind : ℕ) (A : Type 0) → (eqb kind 1 || eqb kind 3) ≡ true → (kind ≡ 1 → A) → (kind ≡ 3 → A) → A
either_kind kind A t one three = go (eqb kind 1) refl (eqb kind 3) refl t
  where
    go : (a : Bool) → eqb kind 1 ≡ a → (b : Bool) → eqb kind 3 ≡ b → (a || b) ≡ true → A
    go true q b r t = one (eqb-true kind 1 q)
    go false q true r t = three (eqb-true kind 3 r)
    go false q false r t = absurd (let z : ◌≡◌ {A = ℕ} 0 1 = ap (λ (b : Bool). cond b 1 0) t in omega arith)

-- ---- an accepted case, and the tables of its flags

module _ (f : List ℕ) (acc : AcceptedFile f) (groups leaders masks : List ℕ)
    (found : FoundMasks (decode f) (decode f).events.count groups leaders masks) where
  accepted : Accepted (format_in f) (section_of f 0) (section_of f 2) (section_of f 3)
  accepted = sanctions.accepted f acc.correction acc.rows_length acc.accepted

  -- ---- the rows before

  module _ (format : Format) (p e : List ℕ) (ef : format ≡ format_in f) (ep : p ≡ section_of f 2) (ee : e ≡ section_of f 3) where
    pub sound : Bytes f → Sound format e leaders
    unfolding decode case_in
    sound b =
        rw (ef, ee)
        (found_laws.sound (format_in f) (section_of f 0) (section_of f 1) (section_of f 2) (section_of f 3) groups leaders masks accepted found
        (accepted_runs f acc.correction acc.rows_length b acc.accepted))

    pub row_found : (penalties : List ℕ) (i : ℕ) (s : Sanction) → i < (decode f).events.count → Holds i penalties (penalty (decode f))
        → s ≡ row_at format p e groups leaders masks penalties i → s ≡ sanction_of (decode f) i
    unfolding decode case_in
    row_found penalties i s l held q =
        q
        ∙ rw (ef, ep, ee)
        (found_laws.row_is (format_in f) (section_of f 0) (section_of f 1) (section_of f 2) (section_of f 3) groups leaders masks accepted found penalties i l held)

  -- ---- the terms of event i

  module _ (i : ℕ) (l : i < (decode f).events.count) where
    -- the row that bears the penalty, read in the table of leaders
    abbrev row_in : (kind : ℕ) → ℕ
    row_in kind = cond (eqb kind 3) (get_or leaders i 0) i

    pub row_bears : row_in ((decode f).events.kind i) ≡ bearer (decode f) i
    row_bears = go (eqb ((decode f).events.kind i) 3) refl
      where
        go : (b : Bool) → eqb ((decode f).events.kind i) 3 ≡ b → cond b (get_or leaders i 0) i ≡ bearer (decode f) i
        go true t = found.leader_held i l ∙ sym (bearer_leader (decode f) (ordered f acc) (bare f acc) i l (eqb-true _ 3 t))
        go false t = sym (bearer_own (decode f) i t)

    pub row_below : (kind : ℕ) → row_in kind < (decode f).events.count
    row_below kind = go (eqb kind 3)
      where
        go : (b : Bool) → cond b (get_or leaders i 0) i < (decode f).events.count
        go true = omega (arith, found.leader_held i l, leader_le (decode f) i)
        go false = l

    -- M is at most 3 halves
    leader_multiplier : (decode f).events.kind i ≡ 3 → multiplier (decode f) (leader_of (decode f) i) ≤ 3
    unfolding multiplier fuel_multiplier
    leader_multiplier k = rw (leader_kind (decode f) (ordered f acc) (bare f acc) i l k, leader_lowest (decode f) (ordered f acc) (bare f acc) i l k) (after_small _)

    -- what the terms of a party-day ask for
    pub fuel_ready : (format : Format) (e : List ℕ) (kind row : ℕ) (s : Sanction) → format ≡ format_in f → e ≡ section_of f 3
        → kind ≡ (decode f).events.kind i → row ≡ row_in kind → s ≡ sanction_of (decode f) row → kind ≡ 3
        → ((events_in format e).kind row ≡ 3) × (s.multiplier ≤ 3)
    fuel_ready format e kind row s ef ee ek er es k =
        let q : (decode f).events.kind i ≡ 3 = sym ek ∙ k in
        let m : row ≡ leader_of (decode f) i = er ∙ rw k (found.leader_held i l) in (
          rw (kind_in format f e ef ee row, m) (leader_kind (decode f) (ordered f acc) (bare f acc) i l q),
          rw (es, m) (leader_multiplier q),
        )

    -- the terms of its party-day
    fuel_is : (decode f).events.kind i ≡ 3
        → fuel_in (format_in f) (section_of f 3) leaders masks 3 (multiplier (decode f) (leader_of (decode f) i)) (leader_of (decode f) i)
        ≡ case_fuel (decode f) (leader_of (decode f) i)
    unfolding fuel_in fuel_of charge_of tcc_change multiplier decode case_in
    fuel_is k =
        rw (
          found_laws.day_is (format_in f) (section_of f 0) (section_of f 1) (section_of f 2) (section_of f 3) groups leaders masks accepted found
              (leader_of (decode f) i) (leader_below (decode f) (ordered f acc) (bare f acc) i l k) (leader_kind (decode f) (ordered f acc) (bare f acc) i l k) (leader_own (decode f) (ordered f acc) (bare f acc) i l k),
          leader_kind (decode f) (ordered f acc) (bare f acc) i l k,
          leader_lowest (decode f) (ordered f acc) (bare f acc) i l k,
        )

    pub fuel_bears : fuel_in (format_in f) (section_of f 3) leaders masks ((decode f).events.kind i) (multiplier (decode f) (bearer (decode f) i)) (bearer (decode f) i)
        ≡ cond (eqb ((decode f).events.kind i) 3) (case_fuel (decode f) (bearer (decode f) i)) no_fuel
    fuel_bears = go (eqb ((decode f).events.kind i) 3) refl
      where
        go : (b : Bool) → eqb ((decode f).events.kind i) 3 ≡ b
            → fuel_in (format_in f) (section_of f 3) leaders masks ((decode f).events.kind i) (multiplier (decode f) (bearer (decode f) i)) (bearer (decode f) i)
            ≡ cond b (case_fuel (decode f) (bearer (decode f) i)) no_fuel
        go true t = let k = eqb-true _ 3 t in rw (bearer_leader (decode f) (ordered f acc) (bare f acc) i l k, k) (fuel_is k)
        go false t = no_fuel_is _ _ leaders masks _ _ _ t

    -- the hours
    terms : list_to most_hours (term_in ((decode f).events.kind i) (cells_from (format_in f) (section_of f 3) i) (get_or masks i 0)) ≡ list_to most_hours (hour_term (decode f) i)
    unfolding term_in hour_term decode case_in
    terms =
        list_same most_hours _ _
        (λ h m.
        rw (
          found_laws.hour_energy_is (format_in f) (section_of f 0) (section_of f 1) (section_of f 2) (section_of f 3) groups leaders masks accepted found (positive_part 32) i h l m,
          found_laws.hour_revenue_is (format_in f) (section_of f 0) (section_of f 1) (section_of f 2) (section_of f 3) groups leaders masks accepted found i h l m,
        )
        (pick (flagged (decode f) i h) (eqb ((decode f).events.kind i) 2) (eqb ((decode f).events.kind i) 1 || eqb ((decode f).events.kind i) 3)
        ((decode f).events.b i h) ((decode f).a i h * positive_part 32 ((decode f).events.b i h))))
      where
        pick : (b two amounts : Bool) (x y : ℕ) → cond two (cond b x 0) (cond amounts (cond b y 0) 0) ≡ cond b (cond two x (cond amounts y 0)) 0
        pick true two amounts x y = refl
        pick false true amounts x y = refl
        pick false false true x y = refl
        pick false false false x y = refl

    losses : list_to most_hours (loss_in ((decode f).events.kind i) (cells_from (format_in f) (section_of f 3) i) (get_or masks i 0)) ≡ list_to most_hours (hour_loss (decode f) i)
    unfolding loss_in hour_loss decode case_in
    losses =
        list_same most_hours _ _
        (λ h m.
        rw (found_laws.hour_energy_is (format_in f) (section_of f 0) (section_of f 1) (section_of f 2) (section_of f 3) groups leaders masks accepted found (negative_part 32) i h l m))

    -- the sums of the hours
    amounts : added_in 1 ((decode f).events.kind i) (list_to most_hours (hour_term (decode f) i)) ≡ cond (eqb ((decode f).events.kind i) 1) (withheld_amount (decode f) i) 0
    unfolding added_in
    amounts = given (eqb ((decode f).events.kind i) 1) (λ t. added f i (eqb-true _ 1 t))

    revenues : added_in 2 ((decode f).events.kind i) (list_to most_hours (hour_term (decode f) i)) ≡ cond (eqb ((decode f).events.kind i) 2) (dispatch_revenue (decode f) i) 0
    unfolding added_in
    revenues = given (eqb ((decode f).events.kind i) 2) (λ t. revenue_added f i (eqb-true _ 2 t))

    -- the whole, from what the functions give
    pub working_made : (format : Format) (e cells : List ℕ) (kind row amount revenue : ℕ) (s : Sanction) (t : FuelTerms) (hours lost : List ℕ)
        → format ≡ format_in f → e ≡ section_of f 3 → cells ≡ cells_from format e i → kind ≡ (decode f).events.kind i → row ≡ row_in kind
        → s ≡ sanction_of (decode f) row → t ≡ fuel_in format e leaders masks kind s.multiplier row → hours ≡ list_to most_hours (term_in kind cells (get_or masks i 0))
        → amount ≡ added_in 1 kind hours → revenue ≡ added_in 2 kind hours
        → lost ≡ list_to most_hours (loss_in kind cells (get_or masks i 0))
        → made kind row amount revenue s t hours lost ≡ penalty_working_at (decode f) i
    working_made format e cells kind row amount revenue s t hours lost ef ee ec ek er es et eh ea ev el =
        rw (et, ea, ev, eh, el, es, er, ec, ef, ee, ek, row_bears, fuel_bears, terms, losses, amounts, revenues) (made_is (decode f) i)

-- ---- the answer

module _ (f k : List ℕ) (i : ℕ) where
  pub refused_is : (number : ℕ) → number ≡ refusal f k (most_rows f) → (number ≡ 0 → ⊥) → refused_penalty number ≡ penalty_working_of f k i
  unfolding penalty_working_of
  refused_is number e n = rw (← e, ne_eqb number 0 n) refl

  pub working_is : refusal f k (most_rows f) ≡ 0 → ltb i (decode f).events.count ≡ true → penalty_working_at (decode f) i ≡ penalty_working_of f k i
  unfolding penalty_working_of
  working_is fine t = rw (eq-eqb _ _ fine, t)

  pub outside_is : refusal f k (most_rows f) ≡ 0 → ltb i (decode f).events.count ≡ false → refused_penalty 10 ≡ penalty_working_of f k i
  unfolding penalty_working_of
  outside_is fine t = rw (eq-eqb _ _ fine, t)
