-- With multiplier 0 there is no penalty; else the smaller call of the kind, given the terms, gives that of the row that bears it.
use Prim.Native.Nat.{ℕ, ◌-◌, ◌*◌, ◌^◌, ◌≤◌, ◌<◌}
use mathlib.Core.Bool.{Bool, true, false, cond, ◌&&◌, ◌||◌}
use mathlib.Core.List.{List}
use mathlib.Core.Path.{◌≡◌, refl, sym, ap, ◌∙◌}
use native.Mathlib.Nat.{zero-mul}
use native.Mathlib.Omega.{arith}
use lib.Dec.{ltb, eqb}
use lib.ListN.{length}
use borrow.Author.Tests.{ltb-true, eqb-true, eqb-false, ne_eqb, lt-ltb, le-ltb, le-leb}
use Rattle.binary.specs.Bounded.{sum_to}
use Rattle.binary.specs.Lists.{list_to}
use Rattle.binary.specs.Word.{positive_part, negative_part, within}
use Rattle.binary.proofs.BoundedLaws.{sum_same, any_false}
use Rattle.binary.proofs.ListLaws.{list_length, list_at}
use Rattle.tariff.specs.Ranges.{highest_capability, highest_price, highest_revenue, highest_e, highest_t}
use Rattle.tariff.specs.SanctionRules.{cents, withheld_penalty, fuel_charge, fuel_penalty}
use Rattle.tariff.proofs.LadderLaws.{ladder_halves}
use Rattle.calls.specs.Answers.{answer, given}
use Rattle.penalty_calls.specs.SanctionCalls.{bad_multiplier, bad_hour, bad_hours, amount_at, withheld_penalty_answer, bad_revenue, bad_revenues, revenue_at, dispatch_penalty_answer, bad_fuel, fuel_penalty_answer}
use Rattle.casefile.specs.Layout.{most_hours}
use Rattle.casefile.specs.Case.{Case}
use Rattle.casefile.specs.Decode.{format_in, section_of, events_in, case_in, decode}
use Rattle.limits.specs.Refusal.{refusal, most_rows}
use Rattle.limits.specs.StageChecked.{AcceptedFile}
use Rattle.limits.proofs.AcceptedLaws as case
use Rattle.limits.proofs.SectionLaws.{cell_ranges, amount_bound}
use Rattle.party_runs.specs.StageParties.{leader_of}
use Rattle.party_runs.proofs.PartyLaws.{leader_together}
use Rattle.conduct.specs.Flags.{flagged}
use Rattle.sanctions.specs.Penalties.{flagged_with_impact, is_instance, instances, withheld_multiplier, withheld_amount, withheld_penalty_of, dispatch_multiplier, dispatch_revenue, dispatch_penalty_of, gain, loss, tcc_change, lowest_unit, fuel_multiplier_after, fuel_penalty_under, fuel_multiplier, fuel_penalty_of, multiplier, penalty}
use Rattle.penalty_terms.specs.declared.penalty_working.PenaltyWorking.{PenaltyWorking}
use Rattle.penalty_terms.specs.PenaltyWorking.{bearer, penalty_working_at, refused_penalty, penalty_working_of}
use Rattle.penalty_terms.specs.ByCalls.{flagged_amount, flagged_revenue, signed_word, PenaltyByCalls, ByCalls}
use Rattle.penalty_terms.proofs.BearerLaws.{ordered, bare, bearer_own, leader_kind, leader_below, leader_lowest, bearer_leader}
use Rattle.penalty_terms.proofs.TermLaws.{added, revenue_added}
use Rattle.penalty_terms.proofs.PartyBounds.{gain_most, loss_most, tcc_most}

-- ---- plain numbers

-- the parts of a difference, as a word and back
signed_parts : (x y : ℕ) → x ≤ highest_e → y ≤ highest_e
    → (positive_part 64 (signed_word (x - y) (y - x)) ≡ x - y) × (negative_part 64 (signed_word (x - y) (y - x)) ≡ y - x)
unfolding signed_word positive_part negative_part
signed_parts x y lx ly = go (eqb (y - x) 0) refl
  where
    go : (b : Bool) → eqb (y - x) 0 ≡ b
        → (cond (ltb (cond b (x - y) (2 ^ 64 - (y - x))) (2 ^ 63)) (cond b (x - y) (2 ^ 64 - (y - x))) 0 ≡ x - y)
        × (cond (ltb (cond b (x - y) (2 ^ 64 - (y - x))) (2 ^ 63)) 0 (2 ^ 64 - cond b (x - y) (2 ^ 64 - (y - x))) ≡ y - x)
    go true t =
        let e = eqb-true (y - x) 0 t in
        let l = lt-ltb (x - y) (2 ^ 63) (omega arith) in
        (rw l, rw (l, e))
    go false t =
        let e = eqb-false (y - x) 0 t in
        let z : x - y ≡ 0 = omega arith in
        let l = le-ltb (2 ^ 64 - (y - x)) (2 ^ 63) (omega arith) in
        (rw (l, z), rw l (omega arith))

-- X by the parts of E is X by its two sums
charge_same : (b : Bool) (x y T : ℕ) → fuel_charge (fuel_multiplier_after b) (x - y) (y - x) T ≡ fuel_charge (fuel_multiplier_after b) x y T
unfolding fuel_charge fuel_multiplier_after
charge_same true x y T = omega arith
charge_same false x y T = omega arith

penalty_same : (c : Case) (i x y T : ℕ) → fuel_penalty (fuel_multiplier c i) (x - y) (y - x) T ≡ fuel_penalty (fuel_multiplier c i) x y T
unfolding fuel_penalty fuel_multiplier
penalty_same c i x y T = rw (charge_same _ x y T)

after_range : (b : Bool) → (ltb (fuel_multiplier_after b) 2 || ltb 3 (fuel_multiplier_after b)) ≡ false
unfolding fuel_multiplier_after
after_range true = refl
after_range false = refl

multiplier_good : (c : Case) (i : ℕ) → bad_multiplier (withheld_multiplier c i) ≡ false
unfolding bad_multiplier withheld_multiplier
multiplier_good c i =
    go (is_instance c i) _ (ladder_halves (λ m. bad_multiplier m ≡ false) refl refl refl refl (instances c 2 i) (instances c 1 i)) refl
  where
    go : (b : Bool) (m : ℕ) → bad_multiplier m ≡ false → bad_multiplier 0 ≡ false → bad_multiplier (cond b m 0) ≡ false
    go true m x y = x
    go false m x y = y

-- ---- no multiplier

after_some : (b : Bool) → fuel_multiplier_after b ≡ 0 → ⊥
unfolding fuel_multiplier_after
after_some true z = omega arith
after_some false z = omega arith

nothing_times : (x : ℕ) → withheld_penalty 0 x ≡ 0
unfolding withheld_penalty cents
nothing_times x = rw (zero-mul x)

no_penalty : (c : Case) (i : ℕ) → multiplier c i ≡ 0 → penalty c i ≡ 0
unfolding multiplier penalty withheld_penalty_of dispatch_multiplier dispatch_penalty_of fuel_multiplier
no_penalty c i z =
    go (eqb (c.events.kind i) 1) (eqb (c.events.kind i) 2) (eqb (c.events.kind i) 3 && lowest_unit c i) (flagged_with_impact c i) (withheld_multiplier c i) _ _ z
  where
    go : (one two three impact : Bool) (m p x : ℕ)
        → cond one m (cond two (cond impact 3 0) (cond three (fuel_multiplier c i) 0)) ≡ 0
        → cond one (withheld_penalty m p) (cond two (cond impact x 0) (cond three (fuel_penalty_of c i) 0)) ≡ 0
    go true two three impact m p x e = rw e (nothing_times p)
    go false true three true m p x e = absurd (omega arith)
    go false true three false m p x e = refl
    go false false true impact m p x e = absurd (after_some _ e)
    go false false false impact m p x e = refl

-- ---- an accepted case

module _ (f k : List ℕ) (n : ℕ) (h : refusal f k n ≡ 0) (i : ℕ) (l : i < (decode f).events.count) where
  abbrev c : Case
  c = decode f

  -- ---- Withheld

  module _ (kind : c.events.kind i ≡ 1) where
    price : (x : ℕ) → x < most_hours → within 32 highest_price (c.events.b i x) ≡ true
    unfolding decode case_in events_in
    price x m = (cell_ranges (format_in f) (section_of f 3) (case.fields f k n h).events_fine_holds i x l m).withheld kind

    power : (x : ℕ) → x < most_hours → flagged_amount c i x ≤ highest_capability
    unfolding flagged_amount decode case_in events_in
    power x m =
        let a =
        amount_bound (format_in f) (section_of f 0) (section_of f 3) (case.records f k n h).units_fine_holds (case.found f k n h).events_listed_holds (case.found f k n h).amounts_fine_holds i x l m (omega arith) in
        pick (flagged c i x) _ a
      where
        pick : (b : Bool) (a : ℕ) → a ≤ highest_capability → cond b a 0 ≤ highest_capability
        pick true a q = q
        pick false a q = omega arith

    hour_good : (x : ℕ) → x < most_hours → bad_hour (list_to most_hours (flagged_amount c i)) (list_to most_hours (c.events.b i)) x ≡ false
    unfolding bad_hour
    hour_good x m =
        rw (
          list_at (flagged_amount c i) most_hours x 0 m,
          list_at (c.events.b i) most_hours x 0 m,
          le-ltb highest_capability (flagged_amount c i x) (power x m),
          price x m,
        )

    hours_good : bad_hours (list_to most_hours (flagged_amount c i)) (list_to most_hours (c.events.b i)) ≡ false
    unfolding bad_hours
    hours_good = rw (list_length (flagged_amount c i) most_hours, list_length (c.events.b i) most_hours, any_false most_hours _ hour_good)

    amount_same : sum_to (length (list_to most_hours (flagged_amount c i))) (amount_at (list_to most_hours (flagged_amount c i)) (list_to most_hours (c.events.b i))) ≡ withheld_amount c i
    unfolding amount_at flagged_amount withheld_amount decode case_in events_in
    amount_same =
        rw (list_length (flagged_amount c i) most_hours)
        (sum_same most_hours _ _
        (λ x m. rw (list_at (flagged_amount c i) most_hours x 0 m, list_at (c.events.b i) most_hours x 0 m) (pick (flagged c i x) _ _)))
      where
        pick : (b : Bool) (a p : ℕ) → cond b a 0 * p ≡ cond b (a * p) 0
        pick true a p = refl
        pick false a p = zero-mul p

    pub withheld_call : withheld_penalty_answer (multiplier c i) (list_to most_hours (flagged_amount c i)) (list_to most_hours (c.events.b i)) ≡ given (penalty c i)
    unfolding withheld_penalty_answer answer multiplier penalty withheld_penalty_of
    withheld_call = rw (kind, multiplier_good c i, hours_good, amount_same)

  -- ---- Dispatch

  module _ (kind : c.events.kind i ≡ 2) where
    revenue_small : (x : ℕ) → x < most_hours → flagged_revenue c i x ≤ highest_revenue
    unfolding flagged_revenue decode case_in events_in
    revenue_small x m = pick (flagged c i x) _ ((cell_ranges (format_in f) (section_of f 3) (case.fields f k n h).events_fine_holds i x l m).dispatch kind)
      where
        pick : (b : Bool) (a : ℕ) → a ≤ highest_revenue → cond b a 0 ≤ highest_revenue
        pick true a q = q
        pick false a q = omega arith

    revenue_good : (x : ℕ) → x < most_hours → bad_revenue (list_to most_hours (flagged_revenue c i)) x ≡ false
    unfolding bad_revenue
    revenue_good x m = rw (list_at (flagged_revenue c i) most_hours x 0 m) (le-ltb highest_revenue (flagged_revenue c i x) (revenue_small x m))

    revenues_good : bad_revenues (list_to most_hours (flagged_revenue c i)) ≡ false
    unfolding bad_revenues
    revenues_good = rw (list_length (flagged_revenue c i) most_hours, any_false most_hours _ revenue_good)

    revenue_same : sum_to (length (list_to most_hours (flagged_revenue c i))) (revenue_at (list_to most_hours (flagged_revenue c i))) ≡ dispatch_revenue c i
    unfolding revenue_at flagged_revenue dispatch_revenue decode case_in events_in
    revenue_same =
        rw (list_length (flagged_revenue c i) most_hours)
        (sum_same most_hours _ _ (λ x m. list_at (flagged_revenue c i) most_hours x 0 m))

    impact_here : multiplier c i ≡ 3 → flagged_with_impact c i ≡ true
    unfolding multiplier dispatch_multiplier
    impact_here e = go (flagged_with_impact c i) (rw kind at e)
      where
        go : (b : Bool) → ◌≡◌ {A = ℕ} (cond b 3 0) 3 → b ≡ true
        go true q = refl
        go false q = absurd (omega arith)

    pub dispatch_call : multiplier c i ≡ 3 → dispatch_penalty_answer (list_to most_hours (flagged_revenue c i)) ≡ given (penalty c i)
    unfolding dispatch_penalty_answer answer penalty dispatch_penalty_of
    dispatch_call e = rw (kind, impact_here e, revenues_good, revenue_same)

  -- ---- Fuel

  module _ (kind : c.events.kind i ≡ 3) (lowest : lowest_unit c i ≡ true) where
    parts : (positive_part 64 (signed_word (gain c i - loss c i) (loss c i - gain c i)) ≡ gain c i - loss c i)
        × (negative_part 64 (signed_word (gain c i - loss c i) (loss c i - gain c i)) ≡ loss c i - gain c i)
    parts = signed_parts (gain c i) (loss c i) (omega (arith, gain_most f k n h i kind)) (omega (arith, loss_most f k n h i kind))

    fuel_good : bad_fuel (signed_word (gain c i - loss c i) (loss c i - gain c i)) (tcc_change c i) (fuel_multiplier c i) ≡ false
    unfolding bad_fuel within fuel_multiplier
    fuel_good =
        rw (
          parts.0,
          parts.1,
          le-leb (gain c i - loss c i) highest_e (omega (arith, gain_most f k n h i kind)),
          le-leb (loss c i - gain c i) highest_e (omega (arith, loss_most f k n h i kind)),
          le-ltb highest_t (tcc_change c i) (omega (arith, tcc_most f k n h i kind)),
        )
        (after_range _)

    pub fuel_call : fuel_penalty_answer (signed_word (gain c i - loss c i) (loss c i - gain c i)) (tcc_change c i) (multiplier c i) ≡ given (penalty c i)
    unfolding fuel_penalty_answer answer multiplier penalty fuel_penalty_of fuel_penalty_under
    fuel_call = rw (kind, lowest, fuel_good, parts.0, parts.1) (ap given (penalty_same c i (gain c i) (loss c i) (tcc_change c i)))

-- ---- every kind

module _ (f k : List ℕ) (n : ℕ) (h : refusal f k n ≡ 0) (i : ℕ) (l : i < (decode f).events.count) where
  acc : AcceptedFile f
  acc = record { correction = k; rows_length = n; accepted = h }

  by_calls_at : PenaltyByCalls (decode f) i (penalty_working_at (decode f) i)
  unfolding penalty_working_at
  by_calls_at =
      record {
        of_the_row =
            record {
              own = own;
              lowest = λ q.
                  rw (bearer_leader (decode f) (ordered f acc) (bare f acc) i l q)
                  (leader_together (decode f) i, leader_lowest (decode f) (ordered f acc) (bare f acc) i l q);
              multiplier_is = refl;
              counts_are = (refl, refl);
              penalty_is = refl;
            };
        amount = λ q. rw q (added f i q);
        revenue = λ q. rw q (revenue_added f i q);
        none = no_penalty (decode f) (bearer (decode f) i);
        withheld = λ q. rw (own (λ z. omega arith)) (withheld_call f k n h i l q);
        dispatch = λ q e. rw (own (λ z. omega arith)) (dispatch_call f k n h i l q (rw (own (λ z. omega arith)) at e));
        fuel = λ q.
            rw (bearer_leader (decode f) (ordered f acc) (bare f acc) i l q, q)
            (fuel_call f k n h (leader_of (decode f) i) (leader_below (decode f) (ordered f acc) (bare f acc) i l q)
            (leader_kind (decode f) (ordered f acc) (bare f acc) i l q) (leader_lowest (decode f) (ordered f acc) (bare f acc) i l q));
      }
    where
      own : ((decode f).events.kind i ≡ 3 → ⊥) → bearer (decode f) i ≡ i
      own z = bearer_own (decode f) i (ne_eqb _ 3 z)

refused_number : (n : ℕ) → (refused_penalty n).number ≡ n
unfolding refused_penalty
refused_number n = refl

pub by_calls : ByCalls
unfolding penalty_working_of
by_calls f k i e = go (eqb (refusal f k (most_rows f)) 0) refl (ltb i (decode f).events.count) refl e
  where
    given_by : (a b : Bool) → PenaltyWorking
    given_by a b = cond a (cond b (penalty_working_at (decode f) i) (refused_penalty 10)) (refused_penalty (refusal f k (most_rows f)))

    go : (a : Bool) → eqb (refusal f k (most_rows f)) 0 ≡ a → (b : Bool) → ltb i (decode f).events.count ≡ b
        → (given_by a b).number ≡ 0 → PenaltyByCalls (decode f) i (given_by a b)
    go true q true t z = by_calls_at f k (most_rows f) (eqb-true _ 0 q) i (ltb-true _ _ t)
    go true q false t z = absurd (omega (arith, refused_number 10))
    go false q b t z = absurd (eqb-false (refusal f k (most_rows f)) 0 q (sym (refused_number _) ∙ z))
