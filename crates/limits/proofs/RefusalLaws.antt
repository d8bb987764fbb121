-- The stages of the refusal: a stage that breaks no limit leaves what follows, and one that does is the answer.
use Prim.Native.Nat.{ℕ, zero, suc, ◌+◌, ◌≤◌, ◌<◌}
use mathlib.Core.Bool.{Bool, true, false, cond}
use mathlib.Core.List.{List, [], ◌∷◌}
use mathlib.Core.Path.{◌≡◌, refl, sym, ap, ◌∙◌}
use Rattle.std.proofs.Common.{Result, Ok, Err, IsErrAnd}
use native.Mathlib.Nat.{suc-ne-zero}
use native.Mathlib.Omega.{arith}
use lib.Dec.{leb, eqb, lit<}
use lib.ListN.{length}
use borrow.Author.Tests.{leb-true, eqb-true, ne_eqb}
use Rattle.binary.proofs.Implies.{and_l, and_r}
use Rattle.casefile.specs.declared.layout.Format.{Format}
use Rattle.casefile.specs.Layout.{section_count, header_width, longest_file}
use Rattle.casefile.specs.Decode.{format_in, offset_of, length_of, section_of, FollowOn, HasSection, units_in, references_in, past_in, events_in}
use Rattle.casefile.specs.Lookup.{correct_references}
use Rattle.limits.specs.Numbers.{refusal_number, refusal_of, number_in, answered}
use Rattle.limits.specs.declared.refusal.Refusal.{Refusal}
use Rattle.limits.specs.declared.refusal.Refusal.TheVariants.{Length, Version, SectionCount, Offsets, SectionSizes, Numbers, Units, References, Correction, Past, EventFields, Days, Periods, EventOrder, UnlistedUnit, AboveCapability, NoReference, RowsTooShort}
use Rattle.limits.specs.Refusal.{length_fine, version_fine, sections_fine, pairs_fine, sizes_fine, numbers_fine, units_fine, references_fine, correction_fine, past_fine, events_fine, days_fine, periods_fine, order_fine, events_listed, amounts_fine, references_found, rows_fine, Limit, limits, header_limits, record_limits, field_limits, unless, first_broken, refusal}
use Rattle.limits.specs.StageRefusal.{header_refusal, records_refusal, fields_refusal, found_refusal}

-- ---- one number of the chain

pub passed : (t : Bool) (k m : ℕ) → unless t (suc k) m ≡ 0 → (t ≡ true) × (m ≡ 0)
passed true k m h = (refl, h)
passed false k m h = absurd (suc-ne-zero k h)

-- one of two numbers, 12 or 13, whatever follows
pub either_broken : (j k : ℕ) (a b : Bool) (next : ℕ) → (unless a j (unless b k 0) ≡ 0 → ⊥) → unless a j (unless b k 0) ≡ unless a j (unless b k next)
either_broken j k true true next h = absurd (h refl)
either_broken j k true false next h = refl
either_broken j k false b next h = refl

-- ---- the stages

-- no limit has the number 0, which is an accepted case's
abbrev pub Numbered : List Limit → Type 0
Numbered [] = Unit {0}
Numbered (l ∷ ls) = (0 < l.number) × Numbered ls

one_next : (met : Bool) (number m x y : ℕ) → 0 < number → x ≡ cond (eqb y 0) m y
    → unless met number x ≡ cond (eqb (unless met number y) 0) m (unless met number y)
one_next true number m x y p e = e
one_next false number m x y p e = rw (ne_eqb number 0 (λ z. omega arith))

-- what follows a stage is the answer where the stage breaks no limit
next_stage : (ls : List Limit) → Numbered ls → (m : ℕ) → first_broken ls m ≡ cond (eqb (first_broken ls 0) 0) m (first_broken ls 0)
next_stage [] n m = refl
next_stage (l ∷ ls) n m = one_next l.met l.number m _ _ n.0 (next_stage ls n.1 m)

header_next : (f : List ℕ) (m : ℕ) → header_refusal f m ≡ cond (eqb (header_refusal f 0) 0) m (header_refusal f 0)
unfolding header_refusal
header_next f m = next_stage (header_limits f) (lit< tt, (lit< tt, (lit< tt, (lit< tt, (lit< tt, tt))))) m

records_next : (format : Format) (u r k p e : List ℕ) (m : ℕ)
    → records_refusal format u r k p e m ≡ cond (eqb (records_refusal format u r k p e 0) 0) m (records_refusal format u r k p e 0)
unfolding records_refusal
records_next format u r k p e m = next_stage (record_limits format u r k p e) (lit< tt, (lit< tt, (lit< tt, (lit< tt, (lit< tt, tt))))) m

fields_next : (format : Format) (p e : List ℕ) (m : ℕ) → fields_refusal format p e m ≡ cond (eqb (fields_refusal format p e 0) 0) m (fields_refusal format p e 0)
unfolding fields_refusal
fields_next format p e m = next_stage (field_limits format p e) (lit< tt, (lit< tt, (lit< tt, (lit< tt, tt)))) m

-- the limits in their order are those of the stages, one after the other
pub in_stages : (f k : List ℕ) (n : ℕ)
    → refusal f k n
    ≡ header_refusal f
    (records_refusal (format_in f) (section_of f 0) (section_of f 1) k (section_of f 2) (section_of f 3)
    (fields_refusal (format_in f) (section_of f 2) (section_of f 3)
    (found_refusal (format_in f) (section_of f 0) (section_of f 1) (correct_references k (section_of f 1)) (section_of f 3) n)))
unfolding refusal header_refusal records_refusal fields_refusal found_refusal
in_stages f k n = refl

pub refusal_header : (f k : List ℕ) (n h : ℕ) → h ≡ header_refusal f 0 → (h ≡ 0 → ⊥) → h ≡ refusal f k n
refusal_header f k n h e ne = rw (in_stages f k n, header_next f, ← e, ne_eqb h 0 ne)

pub refusal_records : (f k : List ℕ) (n r : ℕ) → header_refusal f 0 ≡ 0
    → r ≡ records_refusal (format_in f) (section_of f 0) (section_of f 1) k (section_of f 2) (section_of f 3) 0 → (r ≡ 0 → ⊥) → r ≡ refusal f k n
refusal_records f k n r h e ne = rw (in_stages f k n, header_next f, h, records_next (format_in f) (section_of f 0), ← e, ne_eqb r 0 ne)

module _ (f k : List ℕ) (n : ℕ) (h : header_refusal f 0 ≡ 0) (r : records_refusal (format_in f) (section_of f 0) (section_of f 1) k (section_of f 2) (section_of f 3) 0 ≡ 0) where
  pub refusal_fields : (x : ℕ) → x ≡ fields_refusal (format_in f) (section_of f 2) (section_of f 3) 0 → (x ≡ 0 → ⊥) → x ≡ refusal f k n
  refusal_fields x e ne =
      rw (in_stages f k n, header_next f, h, records_next (format_in f) (section_of f 0), r, fields_next (format_in f) (section_of f 2), ← e, ne_eqb x 0 ne)

  pub refusal_found : fields_refusal (format_in f) (section_of f 2) (section_of f 3) 0 ≡ 0
      → found_refusal (format_in f) (section_of f 0) (section_of f 1) (correct_references k (section_of f 1)) (section_of f 3) n ≡ refusal f k n
  refusal_found e = rw (in_stages f k n, header_next f, h, records_next (format_in f) (section_of f 0), r, fields_next (format_in f) (section_of f 2), e)

-- ---- what a stage that breaks no limit says

pub record HeaderFine (f : List ℕ) : Type 0 where
  pub fits : length_fine f ≡ true
  pub versioned : version_fine f ≡ true
  pub sections : sections_fine f ≡ true
  pub pairs : pairs_fine f ≡ true
  pub sizes : sizes_fine f ≡ true

pub record RecordsFine (format : Format) (units references correction past events : List ℕ) : Type 0 where
  pub numbers_fine_holds : numbers_fine format units references events ≡ true
  pub units_fine_holds : units_fine format units ≡ true
  pub references_fine_holds : references_fine format (units_in format units) references ≡ true
  pub correction_fine_holds : correction_fine format (units_in format units) correction ≡ true
  pub past_fine_holds : past_fine past ≡ true

pub record FieldsFine (format : Format) (past events : List ℕ) : Type 0 where
  pub events_fine_holds : events_fine format events ≡ true
  pub days_fine_holds : days_fine (past_in past) (events_in format events) ≡ true
  pub periods_fine_holds : periods_fine (past_in past) (events_in format events) ≡ true
  pub order_fine_holds : order_fine (events_in format events) ≡ true

pub record FoundFine (format : Format) (units references correct events : List ℕ) (rows_length : ℕ) : Type 0 where
  pub events_listed_holds : events_listed (units_in format units) (events_in format events) ≡ true
  pub amounts_fine_holds : amounts_fine format (units_in format units) events ≡ true
  pub references_found_holds : references_found (references_in format references) (references_in format correct) (events_in format events) ≡ true
  pub rows_fine_holds : rows_fine format (events_in format events) rows_length ≡ true

pub header_fine : (f : List ℕ) (m : ℕ) → header_refusal f m ≡ 0 → HeaderFine f × (m ≡ 0)
unfolding header_refusal
header_fine f m e =
    let p1 = passed (length_fine f) 0 _ e in
    let p2 = passed (version_fine f) 1 _ p1.1 in
    let p3 = passed (sections_fine f) 2 _ p2.1 in
    let p4 = passed (pairs_fine f) 3 _ p3.1 in
    let p5 = passed (sizes_fine f) 4 _ p4.1 in
    (record { fits = p1.0; versioned = p2.0; sections = p3.0; pairs = p4.0; sizes = p5.0 }, p5.1)

pub records_fine : (format : Format) (u r k p s : List ℕ) (m : ℕ) → records_refusal format u r k p s m ≡ 0 → RecordsFine format u r k p s × (m ≡ 0)
unfolding records_refusal
records_fine format u r k p s m e =
    let p17 = passed (numbers_fine format u r s) 16 _ e in
    let p6 = passed (units_fine format u) 5 _ p17.1 in
    let p7 = passed (references_fine format (units_in format u) r) 6 _ p6.1 in
    let p8 = passed (correction_fine format (units_in format u) k) 7 _ p7.1 in
    let p9 = passed (past_fine p) 8 _ p8.1 in
    (record { numbers_fine_holds = p17.0; units_fine_holds = p6.0; references_fine_holds = p7.0; correction_fine_holds = p8.0; past_fine_holds = p9.0 }, p9.1)

pub fields_fine_is : (format : Format) (p s : List ℕ) (m : ℕ) → fields_refusal format p s m ≡ 0 → FieldsFine format p s × (m ≡ 0)
unfolding fields_refusal
fields_fine_is format p s m e =
    let p10 = passed (events_fine format s) 9 _ e in
    let p18 = passed (days_fine (past_in p) (events_in format s)) 17 _ p10.1 in
    let p19 = passed (periods_fine (past_in p) (events_in format s)) 18 _ p18.1 in
    let p11 = passed (order_fine (events_in format s)) 10 _ p19.1 in
    (record { events_fine_holds = p10.0; days_fine_holds = p18.0; periods_fine_holds = p19.0; order_fine_holds = p11.0 }, p11.1)

pub found_fine : (format : Format) (u r c s : List ℕ) (n : ℕ) → found_refusal format u r c s n ≡ 0 → FoundFine format u r c s n
unfolding found_refusal
found_fine format u r c s n e =
    let p12 = passed (events_listed (units_in format u) (events_in format s)) 11 _ e in
    let p13 = passed (amounts_fine format (units_in format u) s) 12 _ p12.1 in
    let p14 = passed (references_found (references_in format r) (references_in format c) (events_in format s)) 13 _ p13.1 in
    let p15 = passed (rows_fine format (events_in format s) n) 14 _ p14.1 in
    record { events_listed_holds = p12.0; amounts_fine_holds = p13.0; references_found_holds = p14.0; rows_fine_holds = p15.0 }

-- ---- the sections of a header that breaks no limit

pub header_long : (f : List ℕ) → HeaderFine f → header_width ≤ length f
unfolding length_fine
header_long f h = leb-true _ _ (and_l (leb header_width (length f)) (leb (length f) longest_file) h.fits)

pub header_short : (f : List ℕ) → HeaderFine f → length f ≤ longest_file
unfolding length_fine
header_short f h = leb-true _ _ (and_r (leb header_width (length f)) (leb (length f) longest_file) h.fits)

pub follow_on : (f : List ℕ) → HeaderFine f → FollowOn f
unfolding pairs_fine
follow_on f h =
    let t = h.pairs in
    record {
      units = eqb-true (offset_of f 0) header_width (search (and_l, and_r));
      references = eqb-true (offset_of f 1) (offset_of f 0 + length_of f 0) (search (and_l, and_r));
      past = eqb-true (offset_of f 2) (offset_of f 1 + length_of f 1) (search (and_l, and_r));
      events = eqb-true (offset_of f 3) (offset_of f 2 + length_of f 2) (search (and_l, and_r));
      end = eqb-true (length f) (offset_of f 3 + length_of f 3) (search (and_l, and_r));
    }

pub has_section : (f : List ℕ) → HeaderFine f → (k : ℕ) → k < section_count → HasSection f k
has_section f h k l = record { known = l; header = header_long f h; inside = go k l (follow_on f h) }
  where
    go : (k : ℕ) → k < section_count → FollowOn f → offset_of f k + length_of f k ≤ length f
    go zero l p = omega arith
    go (suc zero) l p = omega arith
    go (suc (suc zero)) l p = omega arith
    go (suc (suc (suc zero))) l p = omega arith
    go (suc (suc (suc (suc k)))) l p = absurd (omega arith)

-- ---- the refusals and their numbers

pub refusal_of_number : (r : Refusal) → refusal_of (refusal_number r) ≡ r
refusal_of_number Length = refl
refusal_of_number Version = refl
refusal_of_number SectionCount = refl
refusal_of_number Offsets = refl
refusal_of_number SectionSizes = refl
refusal_of_number Numbers = refl
refusal_of_number Units = refl
refusal_of_number References = refl
refusal_of_number Correction = refl
refusal_of_number Past = refl
refusal_of_number EventFields = refl
refusal_of_number Days = refl
refusal_of_number Periods = refl
refusal_of_number EventOrder = refl
refusal_of_number UnlistedUnit = refl
refusal_of_number AboveCapability = refl
refusal_of_number NoReference = refl
refusal_of_number RowsTooShort = refl

pub refusal_not_0 : (r : Refusal) → refusal_number r ≡ 0 → ⊥
refusal_not_0 r z = go r (sym (refusal_of_number r) ∙ ap refusal_of z) z
  where
    go : (r : Refusal) → r ≡ RowsTooShort → refusal_number r ≡ 0 → ⊥
    go r e z = let n : ◌≡◌ {A = ℕ} 15 0 = sym (ap refusal_number e) ∙ z in omega arith

-- an answer is the one that its number stands for
pub answered_is : (r : Result (Unit {0}) Refusal) (n : ℕ) → number_in r ≡ n → r ≡ answered n
answered_is (Ok tt) n e = rw (← e) refl
answered_is (Err r) n e = rw (← e, ne_eqb _ _ (refusal_not_0 r), refusal_of_number r) refl

-- every number of the table is that of a refusal
abbrev pub Tabled : List Limit → Type 0
Tabled [] = Unit {0}
Tabled (l ∷ ls) = (refusal_number (refusal_of l.number) ≡ l.number) × Tabled ls

pub tabled_number : (ls : List Limit) → Tabled ls → (first_broken ls 0 ≡ 0 → ⊥) → refusal_number (refusal_of (first_broken ls 0)) ≡ first_broken ls 0
tabled_number [] t ne = absurd (ne refl)
tabled_number (l ∷ ls) t ne = go l.met ne (tabled_number ls t.1)
  where
    go : (met : Bool) → (unless met l.number (first_broken ls 0) ≡ 0 → ⊥)
        → ((first_broken ls 0 ≡ 0 → ⊥) → refusal_number (refusal_of (first_broken ls 0)) ≡ first_broken ls 0)
        → refusal_number (refusal_of (unless met l.number (first_broken ls 0))) ≡ unless met l.number (first_broken ls 0)
    go true ne rest = rest ne
    go false ne rest = t.0

pub number_stands : (f k : List ℕ) (n : ℕ) → (refusal f k n ≡ 0 → ⊥) → refusal_number (refusal_of (refusal f k n)) ≡ refusal f k n
unfolding refusal
number_stands f k n ne =
    tabled_number (limits f k n)
    (refl, (refl, (refl, (refl, (refl, (refl, (refl, (refl, (refl, (refl, (refl, (refl, (refl, (refl, (refl, (refl, (refl, (refl, tt)))))))))))))))))) ne

-- what `?` hands on
pub err_number : {A : Type 0} (r : Result A Refusal) (f : Refusal) → IsErrAnd r (λ e. e ≡ f) → number_in r ≡ refusal_number f
err_number (Ok x) f h = absurd h
err_number (Err e) f h = ap refusal_number h

pub err_is : {A : Type 0} (r : Result A Refusal) (f : Refusal) → IsErrAnd r (λ e. e ≡ f) → r ≡ Err f
err_is (Ok x) f h = absurd h
err_is (Err e) f h = ap Err h
