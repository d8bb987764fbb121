-- What the check hands on: tables filled event by event.
use Prim.Native.Nat.{ℕ, ◌+◌, ◌<◌}
use mathlib.Core.Bool.{Bool, true, false, ◌&&◌}
use mathlib.Core.List.{List}
use mathlib.Core.Path.{◌≡◌, refl, sym, ap}
use Rattle.std.proofs.Common.{Option, Some, None, cond}
use native.Mathlib.Nat.{not-suc-le-zero}
use lib.ListN.{length, set}
use borrow.Author.Tests.{eq-eqb, ne_eqb}
use Rattle.binary.specs.Bounded.{all_to}
use Rattle.binary.specs.Lists.{Holds}
use Rattle.binary.proofs.BoundedLaws.{all_none, all_more, all_false}
use Rattle.binary.proofs.ListLaws.{holds_more}
use Rattle.casefile.specs.Case.{References, Events}
use Rattle.casefile.specs.Decode.{format_in, section_of, case_in, decode}
use Rattle.casefile.specs.Lookup.{unit_of, has_reference, level_of, reads_correct, bid_level, correct_references, correct_in}
use Rattle.limits.specs.StageLookup.{reads_level, level_in, correct_level}
use Rattle.limits.proofs.LookupLaws.{level_missing}
use Rattle.limits.specs.Refusal.{reference_found}
use Rattle.limits.specs.StageChecked.{HandedOn}
use Rattle.event_check.specs.StageFound.{event_place, Found, levels_of, EventLevels}
use Rattle.event_check.specs.declared.event_limits.Levels.{Levels}

-- ---- r and c of an event

module _ (own correct : References) (e : Events) (i : ℕ) where
  pub levels_none : (e.kind i ≡ 4 → ⊥) → EventLevels own correct e i (Some (record { level = 0; correct = 0 }))
  unfolding levels_of reference_found bid_level correct_level reads_level
  levels_none k = rw (ne_eqb (e.kind i) 4 k) refl

  module _ (kind : e.kind i ≡ 4) where
    pub levels_missing : None ≡ level_in own (e.unit i) (e.component i) → EventLevels own correct e i None
    unfolding levels_of reference_found
    levels_missing n = rw (eq-eqb (e.kind i) 4 kind, level_missing own (e.unit i) (e.component i) n) refl

    module _ (there : Bool) (level : ℕ) (has : there ≡ has_reference own (e.unit i) (e.component i))
        (of : there ≡ true → level ≡ level_of own (e.unit i) (e.component i)) where
      pub levels_own : reads_correct (e.component i) ≡ false → EventLevels own correct e i (cond there (Some (record { level = level; correct = 0 })) None)
      unfolding levels_of reference_found bid_level correct_level reads_level
      levels_own reads = rw (eq-eqb (e.kind i) 4 kind, reads, ← has) (go there of)
        where
          go : (b : Bool) → (b ≡ true → level ≡ level_of own (e.unit i) (e.component i))
              → cond {A = Option Levels} b (Some (record { level = level; correct = 0 })) None
              ≡ cond (b && true) (Some (record { level = level_of own (e.unit i) (e.component i); correct = 0 })) None
          go true f = rw (f refl) refl
          go false f = refl

      pub levels_both : reads_correct (e.component i) ≡ true → (other : Bool) (c : ℕ)
          → other ≡ has_reference correct (e.unit i) (e.component i) → (other ≡ true → c ≡ level_of correct (e.unit i) (e.component i))
          → EventLevels own correct e i (cond (there && other) (Some (record { level = level; correct = c })) None)
      unfolding levels_of reference_found bid_level correct_level reads_level
      levels_both reads other c has' of' = rw (eq-eqb (e.kind i) 4 kind, reads, ← has, ← has') (go there other of of')
        where
          go : (a b : Bool) → (a ≡ true → level ≡ level_of own (e.unit i) (e.component i)) → (b ≡ true → c ≡ level_of correct (e.unit i) (e.component i))
              → cond {A = Option Levels} (a && b) (Some (record { level = level; correct = c })) None
              ≡ cond (a && b) (Some (record { level = level_of own (e.unit i) (e.component i); correct = level_of correct (e.unit i) (e.component i) })) None
          go true true f g = rw (f refl, g refl) refl
          go true false f g = refl
          go false b f g = refl

-- the same of the first n events
pub record LevelsFound (own correct : References) (e : Events) (n : ℕ) (levels corrects : List ℕ) : Type 0 where
  pub found : all_to n (reference_found own correct e) ≡ true
  pub levelled : Holds n levels (bid_level own e)
  pub corrected : Holds n corrects (correct_level correct e)

levels_there : (b : Bool) (l x : Levels) → Some l ≡ cond b (Some x) None → (b ≡ true) × (l ≡ x)
levels_there true l x h = (refl, cc)
levels_there false l x h = (cc, cc)

levels_missed : (b : Bool) (x : Levels) → None ≡ cond b (Some x) None → b ≡ false
levels_missed true x h = cc
levels_missed false x h = refl

module _ (own correct : References) (e : Events) (levels corrects : List ℕ) where
  pub levels_start : LevelsFound own correct e 0 levels corrects
  levels_start =
      record {
        found = sym (all_none _);
        levelled = λ j l. absurd (not-suc-le-zero l);
        corrected = λ j l. absurd (not-suc-le-zero l);
      }

  -- one event more
  pub levels_turn : (n : ℕ) (l : Levels) → n < length levels → n < length corrects
      → LevelsFound own correct e n levels corrects → EventLevels own correct e n (Some l)
      → LevelsFound own correct e (n + 1) (set levels n l.level) (set corrects n l.correct)
  unfolding levels_of
  levels_turn n l a b w x =
      let t = levels_there _ l _ x in
      record {
        found = rw (all_more, w.found) t.0;
        levelled = holds_more n levels (bid_level own e) l.level a w.levelled (ap (λ (y : Levels). y.level) t.1);
        corrected = holds_more n corrects (correct_level correct e) l.correct b w.corrected (ap (λ (y : Levels). y.correct) t.1);
      }

-- an event whose references are not all there
pub levels_fail : (own correct : References) (e : Events) (n i : ℕ) → i < n → EventLevels own correct e i None → all_to n (reference_found own correct e) ≡ false
unfolding levels_of
levels_fail own correct e n i l x = all_false n i (reference_found own correct e) l (levels_missed _ _ x)

-- ---- over the file

pub handed_on : (f k places levels corrects : List ℕ)
    → Found (format_in f) (section_of f 0) (section_of f 1) (correct_references k (section_of f 1)) (section_of f 3) places levels corrects
    → HandedOn f k places levels corrects
unfolding decode case_in unit_of event_place correct_in
handed_on f k places levels corrects h = record { placed = h.placed; levelled = h.levelled; corrected = h.corrected }
