-- What the refusal's number says of the limits: 0 where every limit is met, else the number of the first that is broken.
use Prim.Native.Nat.{ℕ, ◌<◌}
use mathlib.Core.Bool.{Bool, true, false, cond}
use mathlib.Core.List.{List, [], ◌∷◌, ◌++◌}
use mathlib.Core.Path.{◌≡◌, refl, sym, ◌∙◌, ap, subst}
use native.Mathlib.Omega.{arith}
use lib.Dec.{eqb, lit<}
use borrow.Author.Tests.{eq-eqb}
use Rattle.casefile.specs.declared.layout.Widths.{Widths}
use Rattle.casefile.specs.Layout.{first_version, first_widths, widths_of, old_numbers}
use Rattle.casefile.specs.Decode.{format_in, section_of}
use Rattle.casefile.proofs.RecordLaws.{first_widths_is}
use Rattle.limits.proofs.RefusalLaws.{Numbered}
use Rattle.limits.specs.Refusal.{record_numbers_fine, unit_numbers_fine, reference_numbers_fine, event_numbers_fine, numbers_fine, Limit, limits, unless, first_broken, refusal, MeetsAll, DecidedBy}

-- ---- any list of limits

none_broken : (ls : List Limit) → MeetsAll ls → first_broken ls 0 ≡ 0
none_broken [] m = refl
none_broken (l ∷ ls) m = rw m.0 (none_broken ls m.1)

passed : (met : Bool) (number next : ℕ) → 0 < number → unless met number next ≡ 0 → (met ≡ true) × (next ≡ 0)
passed true number next p h = (refl, h)
passed false number next p h = absurd (omega arith)

all_met : (ls : List Limit) → Numbered ls → first_broken ls 0 ≡ 0 → MeetsAll ls
all_met [] n h = tt
all_met (l ∷ ls) n h =
    let p = passed l.met l.number (first_broken ls 0) n.0 h in
    (p.0, all_met ls n.1 p.1)

-- one limit before the others
before_others : (l : Limit) (ls : List Limit) (met : Bool) → l.met ≡ met
    → ((first_broken ls 0 ≡ 0 → ⊥) → DecidedBy ls (first_broken ls 0))
    → (unless met l.number (first_broken ls 0) ≡ 0 → ⊥)
    → DecidedBy (l ∷ ls) (unless met l.number (first_broken ls 0))
before_others l ls true e others ne =
    let o = others ne in
    record {
      before = l ∷ o.before;
      first = o.first;
      after = o.after;
      split = ap (λ (x : List Limit). l ∷ x) o.split;
      met = (e, o.met);
      broken = o.broken;
      number = o.number;
    }
before_others l ls false e others ne =
    record { before = []; first = l; after = ls; split = refl; met = tt; broken = e; number = refl }

decided : (ls : List Limit) → (first_broken ls 0 ≡ 0 → ⊥) → DecidedBy ls (first_broken ls 0)
decided [] ne = absurd (ne refl)
decided (l ∷ ls) ne = before_others l ls l.met refl (decided ls) ne

first_broken_is : (before : List Limit) (l : Limit) (after : List Limit) → MeetsAll before → l.met ≡ false
    → first_broken (before ++ (l ∷ after)) 0 ≡ l.number
first_broken_is [] l after m e = rw e
first_broken_is (x ∷ before) l after m e = rw m.0 (first_broken_is before l after m.1 e)

-- a limit of a list that is met whole
met_at : (before : List Limit) (l : Limit) (after : List Limit) → MeetsAll (before ++ (l ∷ after)) → l.met ≡ true
met_at [] l after m = m.0
met_at (x ∷ before) l after m = met_at before l after m.1

not_met : (l : Limit) → l.met ≡ false → l.met ≡ true → ⊥
not_met l e t = let z : ◌≡◌ {A = ℕ} 0 1 = ap (λ (b : Bool). cond b 1 0) (sym e ∙ t) in omega arith

-- each limit of that number is met
abbrev NumberMet : (m : ℕ) → List Limit → Type 0
NumberMet m [] = Unit {0}
NumberMet m (l ∷ ls) = (l.number ≡ m → l.met ≡ true) × NumberMet m ls

-- and then it is not the number
other_number : (l : Limit) (next m : ℕ) (met : Bool) → l.met ≡ met → (l.number ≡ m → l.met ≡ true) → (next ≡ m → ⊥)
    → unless met l.number next ≡ m → ⊥
other_number l next m true e u rest h = rest h
other_number l next m false e u rest h = not_met l e (u h)

never_number : (m : ℕ) → 0 < m → (ls : List Limit) → NumberMet m ls → first_broken ls 0 ≡ m → ⊥
never_number m p [] u h = absurd (omega arith)
never_number m p (l ∷ ls) u h = other_number l (first_broken ls 0) m l.met refl u.0 (never_number m p ls u.1) h

-- ---- the limits of a case

module _ (f k : List ℕ) (n : ℕ) where
  numbered : Numbered (limits f k n)
  numbered = (
    lit< tt,
    (
      lit< tt,
      (
        lit< tt,
        (
          lit< tt,
          (
            lit< tt,
            (
              lit< tt,
              (
                lit< tt,
                (
                  lit< tt,
                  (
                    lit< tt,
                    (lit< tt, (lit< tt, (lit< tt, (lit< tt, (lit< tt, (lit< tt, (lit< tt, (lit< tt, (lit< tt, tt))))))))),
                  ),
                ),
              ),
            ),
          ),
        ),
      ),
    ),
  )

  pub accepted_meets : refusal f k n ≡ 0 → MeetsAll (limits f k n)
  unfolding refusal
  accepted_meets h = all_met (limits f k n) numbered h

  pub meets_accepted : MeetsAll (limits f k n) → refusal f k n ≡ 0
  unfolding refusal
  meets_accepted m = none_broken (limits f k n) m

  pub refused_decided : (refusal f k n ≡ 0 → ⊥) → DecidedBy (limits f k n) (refusal f k n)
  unfolding refusal
  refused_decided ne = decided (limits f k n) ne

  pub decided_refused : (m : ℕ) → DecidedBy (limits f k n) m → refusal f k n ≡ m
  unfolding refusal
  decided_refused m b =
      ap (λ (ls : List Limit). first_broken ls 0) b.split ∙ first_broken_is b.before b.first b.after b.met b.broken ∙ b.number

  -- a number that applies is not 0
  pub decided_number : (m : ℕ) → DecidedBy (limits f k n) m → refusal f k n ≡ 0 → ⊥
  decided_number m b h = not_met b.first b.broken (met_at b.before b.first b.after (subst MeetsAll b.split (accepted_meets h)))

  -- 17 is never the number of a version 1 file, which has no other field for a number
  old_numbers_holds : (format_in f).version ≡ first_version → old_numbers (format_in f) ≡ true
  unfolding widths_of first_widths
  old_numbers_holds v = ap (λ (w : Widths). eqb w.number_width 2) (sym (first_widths_is (format_in f) (λ e. omega arith)))

  numbers_met : (format_in f).version ≡ first_version → numbers_fine (format_in f) (section_of f 0) (section_of f 1) (section_of f 3) ≡ true
  unfolding numbers_fine record_numbers_fine unit_numbers_fine reference_numbers_fine event_numbers_fine
  numbers_met v = rw (old_numbers_holds v)

  pub first_never_17 : (format_in f).version ≡ first_version → refusal f k n ≡ 17 → ⊥
  unfolding refusal
  first_never_17 v =
      never_number 17 (lit< tt) (limits f k n)
      (no refl, (no refl, (no refl, (no refl, (no refl, (λ e. numbers_met v, (no refl, (no refl, (no refl, (no refl, (no refl, (no refl, (no refl, (no refl, (no refl, (no refl, (no refl, (no refl, tt))))))))))))))))))
    where
      no : {m : ℕ} {b : Bool} → eqb m 17 ≡ false → m ≡ 17 → b ≡ true
      no {m} e q = let z : true ≡ false = sym (eq-eqb m 17 q) ∙ e in cc
