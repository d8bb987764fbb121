-- Runs; events together, an equivalence with a leader; what is sought over the events together with an event is the same for its
-- leader.
use Prim.Native.Nat.{ℕ, ◌+◌, ◌-◌, ◌≤◌, ◌<◌, zero-le}
use mathlib.Core.Bool.{Bool, true, false, cond, ◌&&◌}
use mathlib.Core.List.{List}
use mathlib.Core.Logic.{⊎_elim}
use mathlib.Core.Path.{◌≡◌, refl, sym, ap, ◌∙◌}
use native.Mathlib.Nat.{zero-add, le_refl, eq-or-lt_of_le}
use native.Mathlib.Omega.{arith}
use borrow.Author.Tests.{eqb-true, eq-eqb, ne_eqb}
use lib.Dec.{eqb}
use Rattle.binary.specs.Bounded.{any_to}
use Rattle.binary.specs.Lists.{first_from, Bytes}
use Rattle.binary.proofs.Implies.{and_l, and_r, same_test}
use Rattle.binary.proofs.BoundedLaws.{any_same}
use Rattle.binary.proofs.ListLaws.{from_le, from_holds, from_passed}
use Rattle.casefile.specs.declared.layout.Format.{Format}
use Rattle.casefile.specs.Case.{Events, Case}
use Rattle.casefile.specs.Decode.{format_in, section_of, events_in, case_in, decode}
use Rattle.casefile.specs.Lookup.{unit_of, group_of, together}
use Rattle.limits.specs.Refusal.{refusal}
use Rattle.limits.proofs.RunLaws.{runs_together}
use Rattle.party_runs.specs.StageParties.{same_run, RunsTogether, RunStart, RunEnd, leader_of}

-- ---- runs

pub record SameRun (e : Events) (i j : ℕ) : Type 0 where
  pub kind : e.kind j ≡ e.kind i
  pub day : e.day j ≡ e.day i
  pub market : e.market j ≡ e.market i

pub run_fields : (e : Events) (i j : ℕ) → same_run e i j ≡ true → SameRun e i j
unfolding same_run
run_fields e i j h =
    record {
      kind = eqb-true (e.kind j) (e.kind i) (search (and_l, and_r));
      day = eqb-true (e.day j) (e.day i) (search (and_l, and_r));
      market = eqb-true (e.market j) (e.market i) (search (and_l, and_r));
    }

pub fields_run : (e : Events) (i j : ℕ) → SameRun e i j → same_run e i j ≡ true
unfolding same_run
fields_run e i j s = rw (eq-eqb _ _ s.kind, eq-eqb _ _ s.day) (eq-eqb _ _ s.market)

run_refl : (e : Events) (i : ℕ) → same_run e i i ≡ true
run_refl e i = fields_run e i i (record { kind = refl; day = refl; market = refl })

-- as the search for a run's end has it
pub run_on : (e : Events) (i j : ℕ) → same_run e i j ≡ true → same_run e i (j + 1 - 1) ≡ true
run_on e i j h = let z : j + 1 - 1 ≡ j = omega arith in rw z h

pub run_here : (e : Events) (i : ℕ) → same_run e i (i + 1 - 1) ≡ true
run_here e i = run_on e i i (run_refl e i)

-- two events of a run are of one run with the same events
run_same : (e : Events) (i l j : ℕ) → same_run e i l ≡ true → same_run e l j ≡ same_run e i j
unfolding same_run
run_same e i l j h =
    let s = run_fields e i l h in
    rw (s.kind, s.day, s.market)

run_flip : (e : Events) (i j : ℕ) → same_run e i j ≡ true → same_run e j i ≡ true
run_flip e i j h = run_same e i j i h ∙ run_refl e i

-- a test that follows from one that fails
fails : (a b : Bool) → (a ≡ true → b ≡ true) → b ≡ false → a ≡ false
fails true b f e = sym (f refl) ∙ e
fails false b f e = refl

pub run_first : (e : Events) → RunStart e 0 0
run_first e =
    record {
      reached = zero-le;
      earlier = λ j l. absurd (let n : ⊥ = omega arith in n);
      since = λ j l m. let z : j ≡ 0 = omega arith in rw z (run_refl e 0);
    }

pub run_carried : (e : Events) (i start : ℕ) → RunStart e i start → RunStart e (i + 1 - 1) start
run_carried e i start s = let z : i + 1 - 1 ≡ i = omega arith in rw z s

-- a turn from event i - 1 to event i
module _ (e : Events) (i start : ℕ) (l : i < e.count) (together : RunsTogether e) (s : RunStart e (i - 1) start) where
  goes_on : same_run e i (i - 1) ≡ true → RunStart e i start
  goes_on h =
      record {
        reached = let r = s.reached in omega arith;
        earlier = λ j m. sym (run_same e i (i - 1) j h) ∙ s.earlier j m;
        since = λ j m q.
            ⊎_elim (λ (z : j ≡ i). rw z (run_refl e i))
            (λ (z : j < i). sym (run_same e i (i - 1) j h) ∙ s.since j m (omega arith))
            (eq-or-lt_of_le q);
      }

  begins : same_run e i (i - 1) ≡ false → RunStart e i i
  begins h =
      record {
        reached = le_refl i;
        earlier = λ j m.
            fails (same_run e i j) (same_run e i (i - 1))
            (λ t.
            let back = run_flip e i j t in
            run_same e j i (i - 1) back ∙ together j (i - 1) i (omega arith) (omega arith) l back)
            h;
        since = λ j m q. let z : j ≡ i = omega arith in rw z (run_refl e i);
      }

  pub run_turn : (r : ℕ) (t : Bool) → t ≡ same_run e i (i - 1) → r ≡ cond t start i → RunStart e i r
  run_turn r true t q = rw q (goes_on (sym t))
  run_turn r false t q = rw q (begins (sym t))

-- the ends
module _ (e : Events) (i end : ℕ) (together : RunsTogether e) (l : i < end) (last : same_run e i (end - 1) ≡ true) where
  before_end : end ≤ e.count → (j : ℕ) → i ≤ j → j < end → same_run e i j ≡ true
  before_end w j m q = together i j (end - 1) m (omega arith) (omega arith) last

  pub run_ended : end < e.count → same_run e i end ≡ false → RunEnd e i end
  run_ended w h =
      record {
        after = l;
        within = omega arith;
        until = before_end (omega arith);
        rest = λ j m q. fails (same_run e i j) (same_run e i end) (together i end j (omega arith) m q) h;
      }

  pub run_last : end ≡ e.count → RunEnd e i end
  run_last w =
      record {
        after = l;
        within = omega arith;
        until = before_end (omega arith);
        rest = λ j m q. absurd (let n : ⊥ = omega arith in n);
      }

-- the event after has the same end, where that is not reached
pub run_end_next : (e : Events) (i end : ℕ) → RunEnd e i end → i + 1 < end → RunEnd e (i + 1) end
run_end_next e i end r l =
    let h = r.until (i + 1) (omega arith) l in
    record {
      after = l;
      within = r.within;
      until = λ j m q. run_same e i (i + 1) j h ∙ r.until j (omega arith) q;
      rest = λ j m q. run_same e i (i + 1) j h ∙ r.rest j m q;
    }

-- ---- the events together with an event

-- what decides whether an event is together with another
pub record SameParty (c : Case) (i j : ℕ) : Type 0 where
  pub kind : c.events.kind j ≡ c.events.kind i
  pub day : c.events.day j ≡ c.events.day i
  pub market : c.events.market j ≡ c.events.market i
  pub group : group_of c j ≡ group_of c i

pub together_fields : (c : Case) (i j : ℕ) → together c i j ≡ true → SameParty c i j
unfolding together
together_fields c i j h =
    record {
      kind = eqb-true (c.events.kind j) (c.events.kind i) (search (and_l, and_r));
      day = eqb-true (c.events.day j) (c.events.day i) (search (and_l, and_r));
      market = eqb-true (c.events.market j) (c.events.market i) (search (and_l, and_r));
      group = eqb-true (group_of c j) (group_of c i) (search (and_l, and_r));
    }

fields_together : (c : Case) (i j : ℕ) → SameParty c i j → together c i j ≡ true
unfolding together
fields_together c i j s =
    rw (eq-eqb _ _ s.kind, eq-eqb _ _ s.day, eq-eqb _ _ s.market) (eq-eqb _ _ s.group)

pub together_refl : (c : Case) (i : ℕ) → together c i i ≡ true
together_refl c i = fields_together c i i (record { kind = refl; day = refl; market = refl; group = refl })

flip : (c : Case) (i j : ℕ) → together c i j ≡ true → together c j i ≡ true
flip c i j h =
    let s = together_fields c i j h in
    fields_together c j i (record { kind = sym s.kind; day = sym s.day; market = sym s.market; group = sym s.group })

pub together_sym : (c : Case) (i j : ℕ) → together c i j ≡ together c j i
together_sym c i j = same_test (together c i j) (together c j i) (flip c i j) (flip c j i)

-- two events together are together with the same events
pub together_same : (c : Case) (i l j : ℕ) → together c i l ≡ true → together c l j ≡ together c i j
unfolding together
together_same c i l j h =
    let s = together_fields c i l h in
    rw (s.kind, s.day, s.market, s.group)

together_trans : (c : Case) (i l j : ℕ) → together c i l ≡ true → together c l j ≡ true → together c i j ≡ true
together_trans c i l j h k = sym (together_same c i l j h) ∙ k

pub any_together : (c : Case) (i l : ℕ) (p : ℕ → Bool) → together c i l ≡ true
    → any_to c.events.count (λ j. together c l j && p j) ≡ any_to c.events.count (λ j. together c i j && p j)
any_together c i l p h =
    any_same c.events.count _ _ (λ j q. ap (λ (t : Bool). t && p j) (together_same c i l j h))

-- ---- the leader

pub leader_le : (c : Case) (i : ℕ) → leader_of c i ≤ i
unfolding leader_of
leader_le c i = pick (eqb (c.events.kind i) 4)
  where
    pick : (b : Bool) → cond b i (first_from i 0 (together c i)) ≤ i
    pick true = le_refl i
    pick false = omega (arith, from_le i 0 (together c i))

pub leader_together : (c : Case) (i : ℕ) → together c i (leader_of c i) ≡ true
unfolding leader_of
leader_together c i = pick (eqb (c.events.kind i) 4)
  where
    pick : (b : Bool) → together c i (cond b i (first_from i 0 (together c i))) ≡ true
    pick true = together_refl c i
    pick false = from_holds i 0 (together c i) (rw zero-add (together_refl c i))

-- no earlier event is together with event i, where it is no bid
pub leader_first : (c : Case) (i j : ℕ) → (c.events.kind i ≡ 4 → ⊥) → j < leader_of c i → together c i j ≡ false
unfolding leader_of
leader_first c i j n h = from_passed i 0 j (together c i) zero-le (rw (ne_eqb (c.events.kind i) 4 n) at h)

-- two events are together exactly where they have one leader
not_before : (c : Case) (i j : ℕ) → (c.events.kind i ≡ 4 → ⊥) → together c i j ≡ true → leader_of c i < leader_of c j → ⊥
not_before c i j n h l =
    let no : together c j (leader_of c i) ≡ false = leader_first c j (leader_of c i) (λ k. n (sym (together_fields c i j h).kind ∙ k)) l in
    let yes : together c j (leader_of c i) ≡ true = together_same c i j (leader_of c i) h ∙ leader_together c i in
    let z : ◌≡◌ {A = ℕ} 0 1 = cc in
    omega arith

pub leader_same : (c : Case) (i j : ℕ) → (c.events.kind i ≡ 4 → ⊥) → together c i j ≡ true → leader_of c j ≡ leader_of c i
leader_same c i j n h =
    let a : leader_of c i < leader_of c j → ⊥ = not_before c i j n h in
    let b : leader_of c j < leader_of c i → ⊥ = not_before c j i (λ k. n (sym (together_fields c i j h).kind ∙ k)) (flip c i j h) in
    omega arith

pub leader_eqb : (c : Case) (i j : ℕ) → (c.events.kind i ≡ 4 → ⊥) → eqb (leader_of c j) (leader_of c i) ≡ together c i j
leader_eqb c i j n =
    same_test _ _
    (λ e.
    let q : leader_of c j ≡ leader_of c i = eqb-true _ _ e in
    let t : together c i (leader_of c j) ≡ true = rw q (leader_together c i) in
    together_trans c i (leader_of c j) j t (flip c j (leader_of c j) (leader_together c j)))
    (λ h. eq-eqb _ _ (leader_same c i j n h))

-- ---- an accepted case

pub accepted_runs : (f k : List ℕ) (n : ℕ) → Bytes f → refusal f k n ≡ 0 → RunsTogether (events_in (format_in f) (section_of f 3))
unfolding decode case_in
accepted_runs f k n b h i j m l q p t =
    let s = run_fields (events_in (format_in f) (section_of f 3)) i m t in
    let r = runs_together f k n b h i j m l q p (sym s.day) (sym s.kind) (sym s.market) in
    fields_run (events_in (format_in f) (section_of f 3)) i j (record { kind = sym r.1; day = sym r.0; market = sym r.2 })

-- ---- the sections that a figure does not read

module _ (format : Format) (u r r' p p' e : List ℕ) where
  pub unit_sections : (i : ℕ) → unit_of (case_in format u r p e) i ≡ unit_of (case_in format u r' p' e) i
  unfolding unit_of case_in
  unit_sections i = refl

  pub group_sections : (i : ℕ) → group_of (case_in format u r p e) i ≡ group_of (case_in format u r' p' e) i
  unfolding group_of unit_of case_in
  group_sections i = refl

  pub leader_sections : (i : ℕ) → leader_of (case_in format u r p e) i ≡ leader_of (case_in format u r' p' e) i
  unfolding leader_of together group_of unit_of case_in
  leader_sections i = refl
