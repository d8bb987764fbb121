-- What the reader of events answers, and what limit 10 gives to limit 11.
use Prim.Native.Nat.{ℕ, zero, suc, ◌+◌, ◌-◌, ◌≤◌, ◌<◌}
use mathlib.Core.Bool.{Bool, true, false, ◌&&◌, ◌||◌}
use mathlib.Core.List.{List}
use mathlib.Core.Path.{◌≡◌, refl, sym, ap, ap₂, subst, ◌∙◌}
use native.Mathlib.Omega.{arith}
use lib.Dec.{ltb, eqb}
use borrow.Author.Tests.{ne_eqb}
use Rattle.std.proofs.Common.{Option, Some, None, Ok, Err, cond}
use Rattle.limits.specs.StageRefusal.{events_in_calendar}
use Rattle.limits.specs.declared.refusal.Refusal.{Refusal}
use Rattle.limits.specs.declared.refusal.Refusal.TheVariants.{EventFields}
use Rattle.event_check.specs.declared.event_limits.EventOrder.{EventOrder}
use Rattle.binary.specs.Bounded.{all_to}
use Rattle.binary.specs.Lists.{Bytes}
use Rattle.binary.proofs.BoundedLaws.{all_more, all_true, all_false}
use Rattle.calendar.specs.Periods.{has_period}
use Rattle.tariff.specs.Ranges.{highest_day}
use Rattle.casefile.specs.declared.layout.Format.{Format}
use Rattle.casefile.specs.Layout.{most_hours, number_limit}
use Rattle.casefile.specs.Case.{Units}
use Rattle.casefile.specs.Decode.{cells_from, cells_in, events_in, amounts_in}
use Rattle.casefile.specs.Lookup.{place_of}
use Rattle.casefile.specs.StageRead.{cell_of, event_at}
use Rattle.casefile.specs.declared.events.Event.{Event}
use Rattle.limits.specs.Refusal.{event_numbers_fine, rises, fields_fine, cell_fine, hour_fine, event_fine, events_fine, order_fine, event_key, within_capability, unless}
use Rattle.limits.proofs.RangeLaws.{event_range, number_lt}
use Rattle.event_check.specs.StageReading.{cell_fine_at, amount_within, key_of, number_of, read_if, read_event, order_of, order_number}

-- ---- the cells, read in the part where they begin

pub cells_hours : (format : Format) (s : List ℕ) (i : ℕ)
    → all_to most_hours (cell_fine_at ((events_in format s).kind i) ((events_in format s).component i) (cells_from format s i))
    ≡ all_to ((events_in format s).hours i) (hour_fine (events_in format s) (amounts_in format s) i)
unfolding events_in amounts_in cells_in cell_fine_at cell_of hour_fine
cells_hours format s i = refl

pub amounts_hours : (format : Format) (u : Units) (s : List ℕ) (i : ℕ)
    → all_to most_hours (amount_within (u.capability (place_of u ((events_in format s).unit i))) (cells_from format s i))
    ≡ all_to ((events_in format s).hours i) (within_capability u (events_in format s) (amounts_in format s) i)
unfolding events_in amounts_in cells_in amount_within cell_of within_capability
amounts_hours format u s i = refl

-- a cell of no kind breaks no limit of a kind
pub other_kind : (kind component : ℕ) (cells : List ℕ) → (kind ≡ 1 → ⊥) → (kind ≡ 2 → ⊥) → (kind ≡ 3 → ⊥) → (kind ≡ 4 → ⊥)
    → true ≡ all_to most_hours (cell_fine_at kind component cells)
unfolding cell_fine_at cell_fine
other_kind kind component cells a b c d =
    sym (all_true most_hours _ (λ h l. rw (ne_eqb kind 1 a, ne_eqb kind 2 b, ne_eqb kind 3 c, ne_eqb kind 4 d)))

-- ---- the event reader

pub read_is : (format : Format) (s : List ℕ) (i : ℕ) (e : Event) (r : List ℕ) (fields cells b : Bool)
    → e ≡ event_at (events_in format s) i
    → fields ≡ fields_fine most_hours e.kind e.market e.component e.impact e.day e.p e.q e.r
    → r ≡ cells_from format s i
    → cells ≡ all_to most_hours (cell_fine_at e.kind e.component r)
    → (fields && cells) ≡ b
    → read_if b e ≡ read_event format s i
unfolding read_event event_fine event_at events_in
read_is format s i e r fields cells b same f part t d =
    let f' : fields ≡ fields_fine most_hours o.kind o.market o.component o.impact o.day o.p o.q o.r =
    f ∙ ap (λ (x : Event). fields_fine most_hours x.kind x.market x.component x.impact x.day x.p x.q x.r) same in
    let t' : cells ≡ all_to ((events_in format s).hours i) (hour_fine (events_in format s) (amounts_in format s) i) =
    t
    ∙ ap₂ (λ (x : Event) (y : List ℕ). all_to most_hours (cell_fine_at x.kind x.component y)) same part
    ∙ cells_hours format s i in
    ap₂ read_if (sym (ap₂ ◌&&◌ (sym f') (sym t') ∙ d)) same
  where
    o : Event
    o = event_at (events_in format s) i

pub read_number : (format : Format) (s : List ℕ) (i : ℕ) (a : Option Event) → a ≡ read_event format s i → number_of a ≡ unless (event_fine (events_in format s) (amounts_in format s) i) 10 0
unfolding read_event number_of read_if
read_number format s i a h = ap number_of h ∙ go (event_fine (events_in format s) (amounts_in format s) i)
  where
    go : (b : Bool) → number_of (read_if b (event_at (events_in format s) i)) ≡ unless b 10 0
    go true = refl
    go false = refl

readable_of : (b : Bool) (x e : Event) → read_if b x ≡ Some e → (b ≡ true) × (e ≡ x)
unfolding read_if
readable_of true x e h = (refl, cc)
readable_of false x e h = (cc, cc)

unreadable_of : (b : Bool) (e : Event) → read_if b e ≡ None → b ≡ false
unfolding read_if
unreadable_of true e h = cc
unreadable_of false e h = refl

pub readable : (format : Format) (s : List ℕ) (i : ℕ) (e : Event) → read_event format s i ≡ Some e
    → (event_fine (events_in format s) (amounts_in format s) i ≡ true) × (e ≡ event_at (events_in format s) i)
unfolding read_event
readable format s i e h = readable_of _ _ e h

pub unreadable : (format : Format) (s : List ℕ) (i : ℕ) → read_event format s i ≡ None → event_fine (events_in format s) (amounts_in format s) i ≡ false
unfolding read_event
unreadable format s i h = unreadable_of _ _ h

-- an event that can't be read refuses all of them
unreadable_among : (format : Format) (s : List ℕ) (i : ℕ) → i < (events_in format s).count → read_event format s i ≡ None → events_fine format s ≡ false
unfolding events_fine
unreadable_among format s i p h =
    all_false (events_in format s).count i (event_fine (events_in format s) (amounts_in format s)) p (unreadable format s i h)

pub order_unreadable : (format : Format) (s : List ℕ) (i : ℕ) → i < (events_in format s).count → read_event format s i ≡ None → Err EventFields ≡ order_of format s
unfolding order_of
order_unreadable format s i p h = rw (unreadable_among format s i p h)

pub number_unreadable : (format : Format) (s : List ℕ) (i : ℕ) → i < (events_in format s).count → read_event format s i ≡ None
    → 10 ≡ unless (events_fine format s) 10 (unless (events_in_calendar (events_in format s)) 19 (unless (order_fine (events_in format s)) 11 0))
number_unreadable format s i p h = rw (unreadable_among format s i p h)

-- ---- from one limit to the next

pub read_day : (format : Format) (s : List ℕ) (i : ℕ) (e : Event) → event_fine (events_in format s) (amounts_in format s) i ≡ true → e ≡ event_at (events_in format s) i → e.day ≤ highest_day
unfolding event_at
read_day format s i e fine same =
    subst (λ (x : Event). x.day ≤ highest_day) (sym same) (event_range (events_in format s) (amounts_in format s) i fine).day

pub read_unit : (format : Format) (s : List ℕ) (i : ℕ) (e : Event) → Bytes s → event_numbers_fine format s ≡ true → i < (events_in format s).count
    → e ≡ event_at (events_in format s) i → e.unit < number_limit
unfolding event_at
read_unit format s i e b h l same = subst (λ (x : Event). x.unit < number_limit) (sym same) (number_lt format s b h i l)

pub read_key : (format : Format) (s : List ℕ) (i : ℕ) (e : Event) → e ≡ event_at (events_in format s) i → key_of e ≡ event_key (events_in format s) i
unfolding key_of event_at event_key
read_key format s i e same = ap key_of same

-- its day and period are those that 18 and 19 look at
pub read_dated : (format : Format) (s : List ℕ) (i : ℕ) (e : Event) → e ≡ event_at (events_in format s) i
    → has_period e.day e.period ≡ has_period ((events_in format s).day i) ((events_in format s).period i)
unfolding event_at
read_dated format s i e same = ap (λ (x : Event). has_period x.day x.period) same

both_rise : (a b : Bool) → unless b 11 (unless a 11 0) ≡ unless (a && b) 11 0
both_rise true b = refl
both_rise false true = refl
both_rise false false = refl

-- the order of one event more, by the number that the events are refused with
pub order_turn : (key : ℕ → ℕ) (i last k order : ℕ) → order ≡ unless (all_to i (rises key)) 11 0 → (0 < i → last ≡ key (i - 1)) → k ≡ key i
    → unless (eqb i 0 || ltb last k) 11 order ≡ unless (all_to (i + 1) (rises key)) 11 0
unfolding rises
order_turn key i last k order f before e =
    ap₂ (λ (t : Bool) (x : ℕ). unless t 11 x) (above i before ∙ ap (λ (x : ℕ). eqb i 0 || ltb (key (i - 1)) x) e) f
    ∙ both_rise (all_to i (rises key)) (rises key i)
    ∙ ap (λ (t : Bool). unless t 11 0) (sym (all_more i (rises key)))
  where
    above : (j : ℕ) → (0 < j → last ≡ key (j - 1)) → (eqb j 0 || ltb last k) ≡ (eqb j 0 || ltb (key (j - 1)) k)
    above zero l = refl
    above (suc j) l = ap (λ (x : ℕ). eqb (suc j) 0 || ltb x k) (l (omega arith))

-- the same of whether they rise, which the number tells
pub rising_turn : (key : ℕ → ℕ) (i last k : ℕ) (rising : Bool) → rising ≡ all_to i (rises key) → (0 < i → last ≡ key (i - 1)) → k ≡ key i
    → (rising && (eqb i 0 || ltb last k)) ≡ all_to (i + 1) (rises key)
rising_turn key i last k rising f before e =
    told (rising && (eqb i 0 || ltb last k)) (all_to (i + 1) (rises key))
    (sym (both_rise rising (eqb i 0 || ltb last k)) ∙ order_turn key i last k (unless rising 11 0) (ap (λ (t : Bool). unless t 11 0) f) before e)
  where
    told : (a b : Bool) → unless a 11 0 ≡ unless b 11 0 → a ≡ b
    told true true h = refl
    told true false h = cc
    told false true h = cc
    told false false h = refl

-- ---- what one look at each event finds

order_refused : (b : Bool) (x : EventOrder) (r : Refusal) → Err r ≡ cond b (Ok x) (Err EventFields) → (b ≡ false) × (r ≡ EventFields)
order_refused true x r h = (cc, cc)
order_refused false x r h = (refl, cc)

order_found : (b : Bool) (x o : EventOrder) → Ok o ≡ cond b (Ok x) (Err EventFields) → (b ≡ true) × (o ≡ x)
order_found true x o h = (refl, cc)
order_found false x o h = (cc, cc)

pub unread : (format : Format) (s : List ℕ) (r : Refusal) → Err r ≡ order_of format s → (events_fine format s ≡ false) × (r ≡ EventFields)
unfolding order_of
unread format s r h = order_refused _ _ r h

pub read : (format : Format) (s : List ℕ) (o : EventOrder) → Ok o ≡ order_of format s
    → (events_fine format s ≡ true) × (o ≡ record { dated = events_in_calendar (events_in format s); rising = order_fine (events_in format s) })
unfolding order_of
read format s o h = order_found _ _ o h

pub order_numbered : (format : Format) (s : List ℕ)
    → order_number (order_of format s)
    ≡ unless (events_fine format s) 10 (unless (events_in_calendar (events_in format s)) 19 (unless (order_fine (events_in format s)) 11 0))
unfolding order_of
order_numbered format s = go (events_fine format s)
  where
    go : (b : Bool)
        → order_number (cond b (Ok (record { dated = events_in_calendar (events_in format s); rising = order_fine (events_in format s) })) (Err EventFields))
        ≡ unless b 10 (unless (events_in_calendar (events_in format s)) 19 (unless (order_fine (events_in format s)) 11 0))
    go true = refl
    go false = refl
