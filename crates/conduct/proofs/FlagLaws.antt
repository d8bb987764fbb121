-- The flags that are found from the tables are the flags of the case.
use Prim.Native.Nat.{ℕ, ◌+◌, ◌<◌}
use mathlib.Core.Bool.{Bool, true, false, cond}
use mathlib.Core.List.{List, []}
use mathlib.Core.Path.{◌≡◌, refl, sym, ap, ap₂, ◌∙◌}
use mathlib.Core.Logic.{⊎_elim}
use native.Mathlib.Nat.{le_of_suc-le-suc, eq-or-lt_of_le}
use native.Mathlib.Numerals.{add-one}
use native.Mathlib.Omega.{arith}
use borrow.Author.Tests.{eqb-true, eqb-false, ne_eqb, ltb-true, ltb-false}
use lib.Dec.{ltb, eqb}
use lib.ListN.{length, get_or, set}
use lib.Seq.{get_or-set_same, get_or-set_other}
use Rattle.binary.specs.Bounded.{sum_to, bit_of}
use Rattle.binary.specs.Lists.{Holds}
use Rattle.binary.proofs.BoundedLaws.{sum_same}
use Rattle.binary.proofs.MaskLaws.{mask_same}
use Rattle.casefile.specs.declared.layout.Format.{Format}
use Rattle.casefile.specs.Layout.{most_hours}
use Rattle.casefile.specs.Case.{Case}
use Rattle.casefile.specs.Decode.{units_in, events_in, case_in}
use Rattle.casefile.specs.Lookup.{unit_of, group_of, together}
use Rattle.party_runs.specs.StageParties.{same_run, RunEnd, leader_of}
use Rattle.party_runs.proofs.PartyLaws.{together_fields, together_sym, together_same, any_together, leader_le, leader_together, leader_same, leader_eqb, fields_run}
use Rattle.conduct.specs.Flags.{sum_together, time_bid, group_capability, fuel_flag}
use Rattle.conduct.specs.StageFlags.{party_figure, led_sum, party_sum, PartyWithin, HasRow, capability_of, listed_capability, time_total_in, total_read, flagged_in, flag_mask_in, mask_in, Led, member_mask, LeaderFlagged, PartyFlagged, Flagged}
use Rattle.conduct.proofs.HourTestLaws.{hours_are, mask_is}
use Rattle.conduct.proofs.SumLaws.{capability_is}

kind_is : (format : Format) (u e : List ℕ) (i : ℕ) → (case_in format u [] [] e).events.kind i ≡ (events_in format e).kind i
unfolding case_in
kind_is format u e i = refl

-- ---- the events of a party

module _ (c : Case) (i j : ℕ) (t : together c i j ≡ true) where
  sum_together_is : (h : ℕ) → party_sum c j h ≡ party_sum c i h
  unfolding party_sum sum_together
  sum_together_is h = sum_same c.events.count _ _ (λ k l. ap (λ (b : Bool). cond b (party_figure c k h) 0) (together_same c i j k t))

  capability_together : listed_capability c j ≡ listed_capability c i
  unfolding listed_capability
  capability_together =
      let s = together_fields c i j t in
      ap₂ (λ (k g : ℕ). cond (eqb k 1) g 0) s.kind (sym (capability_is c j) ∙ ap (capability_of c.units) s.group ∙ capability_is c i)

  fuel_together : (h : ℕ) → fuel_flag c j h ≡ fuel_flag c i h
  unfolding fuel_flag
  fuel_together h = any_together c i j (λ k. bit_of (c.events.P k) h) t

fuel_hour : (c : Case) (levels : List ℕ) (i h : ℕ) → c.events.kind i ≡ 3 → flagged_in c levels i h ≡ fuel_flag c i h
unfolding flagged_in
fuel_hour c levels i h k = rw k

-- one union of P for a party
fuel_same : (format : Format) (u e : List ℕ) (i j : ℕ) → together (case_in format u [] [] e) i j ≡ true → (case_in format u [] [] e).events.kind j ≡ 3
    → flag_mask_in (case_in format u [] [] e) [] i ≡ flag_mask_in (case_in format u [] [] e) [] j
fuel_same format u e i j t k =
    let m = sym (together_fields (case_in format u [] [] e) i j t).kind ∙ k in
    sym (hours_are format u e [] i)
    ∙ mask_same most_hours _ _
    (λ h l.
    fuel_hour (case_in format u [] [] e) [] i h m ∙ sym (fuel_together (case_in format u [] [] e) i j t h) ∙ sym (fuel_hour (case_in format u [] [] e) [] j h k))
    ∙ hours_are format u e [] j

-- a bid alone reads a reference level
level_unread : (c : Case) (levels : List ℕ) (i h : ℕ) → (c.events.kind i ≡ 4 → ⊥) → flagged_in c [] i h ≡ flagged_in c levels i h
unfolding flagged_in
level_unread c levels i h n = rw (ne_eqb (c.events.kind i) 4 n)

no_level : (format : Format) (u e levels : List ℕ) (i : ℕ) → ((case_in format u [] [] e).events.kind i ≡ 4 → ⊥)
    → flag_mask_in (case_in format u [] [] e) [] i ≡ flag_mask_in (case_in format u [] [] e) levels i
no_level format u e levels i n =
    sym (hours_are format u e [] i) ∙ mask_same most_hours _ _ (λ h l. level_unread (case_in format u [] [] e) levels i h n) ∙ hours_are format u e levels i

figure_sections : (format : Format) (u e : List ℕ) (j h : ℕ) → party_figure (case_in format [] [] [] e) j h ≡ party_figure (case_in format u [] [] e) j h
unfolding party_figure case_in
figure_sections format u e j h = refl

party_sum_is : (format : Format) (u e : List ℕ) (i h : ℕ)
    → sum_to (events_in format e).count (λ j. cond (together (case_in format u [] [] e) i j) (party_figure (case_in format u [] [] e) j h) 0) ≡ party_sum (case_in format u [] [] e) i h
unfolding party_sum sum_together case_in events_in
party_sum_is format u e i h = refl

together_run : (format : Format) (u e : List ℕ) (i j : ℕ) → together (case_in format u [] [] e) i j ≡ true → same_run (events_in format e) i j ≡ true
unfolding case_in
together_run format u e i j t =
    let s = together_fields (case_in format u [] [] e) i j t in
    fields_run (events_in format e) i j (record { kind = s.kind; day = s.day; market = s.market })

module _ (format : Format) (u e places leaders : List ℕ) (f : Led format u e places leaders) (i : ℕ) where
  leader_is : (j : ℕ) → j < (events_in format e).count → get_or leaders j 0 ≡ i → leader_of (case_in format u [] [] e) j ≡ i
  leader_is j l q = sym (f.led j l) ∙ q

  with_leader : (j : ℕ) → j < (events_in format e).count → get_or leaders j 0 ≡ i → together (case_in format u [] [] e) i j ≡ true
  with_leader j l q = together_sym (case_in format u [] [] e) i j ∙ (rw (leader_is j l q) at (leader_together (case_in format u [] [] e) j))

  kind_led : (j : ℕ) → j < (events_in format e).count → get_or leaders j 0 ≡ i → (case_in format u [] [] e).events.kind j ≡ (case_in format u [] [] e).events.kind i
  kind_led j l q = (together_fields (case_in format u [] [] e) i j (with_leader j l q)).kind

  pub party_within : (end : ℕ) → RunEnd (events_in format e) i end → PartyWithin leaders (events_in format e).count i end
  unfolding events_in
  party_within end r j l q =
      let le = leader_le (case_in format u [] [] e) j in
      let own = leader_is j l q in
      (omega arith, pick (ltb j end) refl)
    where
      pick : (b : Bool) → ltb j end ≡ b → j < end
      pick true t = ltb-true j end t
      pick false t =
          let z : true ≡ false = sym (together_run format u e i j (with_leader j l q)) ∙ r.rest j (ltb-false j end t) l in
          let o : ◌≡◌ {A = ℕ} 0 1 = cc in
          omega arith

  -- the row of the events that event i leads is that of its party
  pub party_row : (row : List ℕ) → get_or leaders i 0 ≡ i → ((case_in format u [] [] e).events.kind i ≡ 4 → ⊥) → i < (events_in format e).count
      → HasRow (led_sum (case_in format [] [] [] e) leaders (events_in format e).count i) row → HasRow (party_sum (case_in format u [] [] e) i) row
  unfolding led_sum
  party_row row own n l r =
      record {
        each = λ h b.
            r.each h b
            ∙ sum_same (events_in format e).count _ _
            (λ j lj.
            ap₂ (λ (t : Bool) (x : ℕ). cond t x 0)
            (ap₂ eqb (f.led j lj) (sym (leader_is i l own)) ∙ leader_eqb (case_in format u [] [] e) i j n) (figure_sections format u e j h))
            ∙ party_sum_is format u e i h;
      }

-- ---- the masks of a party

-- event i leads a party, no bid, and G and the sums are the party's
pub record PartyFound (format : Format) (u e : List ℕ) (i G : ℕ) (sums : List ℕ) : Type 0 where
  pub no_bid : (case_in format u [] [] e).events.kind i ≡ 4 → ⊥
  pub capability : G ≡ listed_capability (case_in format u [] [] e) i
  pub summed : HasRow (party_sum (case_in format u [] [] e) i) sums

module _ (format : Format) (u e places leaders sums : List ℕ) (f : Led format u e places leaders) (i j G : ℕ) (p : PartyFound format u e i G sums)
    (l : j < (events_in format e).count) (q : get_or leaders j 0 ≡ i) where
  withheld_capability : (case_in format u [] [] e).events.kind j ≡ 1 → listed_capability (case_in format u [] [] e) j ≡ group_capability (case_in format u [] [] e) j
  unfolding listed_capability
  withheld_capability k = rw k

  -- found from the party's figures
  pub own_flags : (place x : ℕ) → place ≡ unit_of (case_in format u [] [] e) j → x ≡ mask_in format u e place 0 G sums j → x ≡ flag_mask_in (case_in format u [] [] e) [] j
  own_flags place x at r =
      let t = with_leader format u e places leaders f i j l q in
      mask_is format u e j [] sums place 0 G x at
      (record {
        bid = λ k. absurd (p.no_bid (sym (kind_led format u e places leaders f i j l q) ∙ k));
        capability = λ k. p.capability ∙ sym (capability_together (case_in format u [] [] e) i j t) ∙ withheld_capability k;
        party = λ n. record { each = λ h b. p.summed.each h b ∙ sym (sum_together_is (case_in format u [] [] e) i j t h) };
      }) r

  pub member_flags : (place first x : ℕ) → place ≡ unit_of (case_in format u [] [] e) j → first ≡ flag_mask_in (case_in format u [] [] e) [] i
      → x ≡ member_mask format u e place first G sums j → x ≡ flag_mask_in (case_in format u [] [] e) [] j
  unfolding member_mask
  member_flags place first x at ef r = pick (eqb ((events_in format e).kind j) 3) refl r
    where
      pick : (b : Bool) → eqb ((events_in format e).kind j) 3 ≡ b → x ≡ cond b first (mask_in format u e place 0 G sums j) → x ≡ flag_mask_in (case_in format u [] [] e) [] j
      pick true k r = r ∙ ef ∙ fuel_same format u e i j (with_leader format u e places leaders f i j l q) (kind_is format u e j ∙ eqb-true _ 3 k)
      pick false k r = own_flags place x at r

module _ (format : Format) (u e leaders old new : List ℕ) (i : ℕ) where
  pub party_first : (n end x : ℕ) → PartyWithin leaders n i end → i < n → i < length old → x ≡ flag_mask_in (case_in format u [] [] e) [] i
      → PartyFlagged format u e leaders i (i + 1) (set old i x) (set old i x)
  party_first n end x w l m ex =
      record {
        members = λ k q h.
            let z = w k (omega arith) h in
            let k≡i : k ≡ i = omega arith in
            ap (λ (y : ℕ). get_or (set old i x) y 0) k≡i ∙ get_or-set_same old i x 0 m ∙ ex ∙ ap (flag_mask_in (case_in format u [] [] e) []) (sym k≡i);
        others = λ k h. refl;
      }

  pub party_more : (j x : ℕ) → j < length new → get_or leaders j 0 ≡ i → x ≡ flag_mask_in (case_in format u [] [] e) [] j
      → PartyFlagged format u e leaders i j old new → PartyFlagged format u e leaders i (j + 1) old (set new j x)
  party_more j x l own ex p =
      record {
        members = λ k m h. pick k m h (eqb k j) refl;
        others = λ k h. get_or-set_other new j k x 0 (λ z. h (ap (λ (y : ℕ). get_or leaders y 0) z ∙ own)) ∙ p.others k h;
      }
    where
      pick : (k : ℕ) → k < j + 1 → get_or leaders k 0 ≡ i → (b : Bool) → eqb k j ≡ b → get_or (set new j x) k 0 ≡ flag_mask_in (case_in format u [] [] e) [] k
      pick k m h true z = let k≡j = eqb-true k j z in rw (k≡j, get_or-set_same new j x 0 l) ex
      pick k m h false z = let n = eqb-false k j z in get_or-set_other new j k x 0 n ∙ p.members k (omega arith) h

  pub party_pass : (j : ℕ) → (get_or leaders j 0 ≡ i → ⊥) → PartyFlagged format u e leaders i j old new → PartyFlagged format u e leaders i (j + 1) old new
  party_pass j n p =
      record { members = λ k m h. p.members k (let q : k ≡ j → ⊥ = λ z. n (ap (λ (y : ℕ). get_or leaders y 0) (sym z) ∙ h) in omega arith) h; others = p.others }

  pub party_all : (n end x : ℕ) → PartyWithin leaders n i end → get_or leaders i 0 ≡ i → PartyFlagged format u e leaders i end (set old i x) new
      → PartyFlagged format u e leaders i n old new
  party_all n end x w own p =
      record {
        members = λ k l h. p.members k (w k l h).1 h;
        others = λ k h. p.others k h ∙ get_or-set_other old i k x 0 (λ z. h (ap (λ (m : ℕ). get_or leaders m 0) z ∙ own));
      }

-- ---- the masks of every event

leader_bid : (c : Case) (i : ℕ) → c.events.kind i ≡ 4 → leader_of c i ≡ i
unfolding leader_of
leader_bid c i k = rw k

leader_own : (c : Case) (k : ℕ) → leader_of c (leader_of c k) ≡ leader_of c k
leader_own c k = pick (eqb (c.events.kind k) 4) refl
  where
    pick : (b : Bool) → eqb (c.events.kind k) 4 ≡ b → leader_of c (leader_of c k) ≡ leader_of c k
    pick true z = ap (leader_of c) (leader_bid c k (eqb-true _ 4 z))
    pick false z = leader_same c k (leader_of c k) (eqb-false _ 4 z) (leader_together c k)

pub flags_none : (format : Format) (u e leaders levels masks : List ℕ) → Flagged format u e leaders levels 0 masks
flags_none format u e leaders levels masks = record { each = λ k l z. absurd (let o : ⊥ = omega arith in o) }

module _ (format : Format) (u e places leaders levels masks : List ℕ) (f : Led format u e places leaders) (i : ℕ) (li : i < (events_in format e).count)
    (g : Flagged format u e leaders levels i masks) where
  -- event i does not lead, or leads a party, or is a bid
  pub flags_turn : (new : List ℕ) (bid : ℕ) → ((events_in format e).kind i ≡ 4 → bid ≡ flag_mask_in (case_in format u [] [] e) levels i)
      → LeaderFlagged format u e leaders bid i masks new → Flagged format u e leaders levels (i + 1) new
  flags_turn new bid eb p =
      record {
        each = λ k l q.
            ⊎_elim
            (λ (z : get_or leaders k 0 ≡ i). led k l z (eqb ((events_in format e).kind i) 4) refl)
            (λ (z : get_or leaders k 0 < i). p.others k (λ y. let o : ⊥ = omega arith in o) ∙ g.each k l z)
            (eq-or-lt_of_le (le_of_suc-le-suc (rw add-one at q)));
      }
    where
      led : (k : ℕ) → k < (events_in format e).count → get_or leaders k 0 ≡ i → (t : Bool) → eqb ((events_in format e).kind i) 4 ≡ t
          → get_or new k 0 ≡ flag_mask_in (case_in format u [] [] e) levels k
      led k l z true t =
          let b : (case_in format u [] [] e).events.kind i ≡ 4 = kind_is format u e i ∙ eqb-true _ 4 t in
          let same : k ≡ i =
          sym (leader_bid (case_in format u [] [] e) k (kind_led format u e places leaders f i k l z ∙ b)) ∙ leader_is format u e places leaders f i k l z in
          let own : get_or leaders i 0 ≡ i = rw same at z in
          rw same (p.bids own (eqb-true _ 4 t) ∙ eb (eqb-true _ 4 t))
      led k l z false t =
          let n = eqb-false ((events_in format e).kind i) 4 t in
          p.members k l n z
          ∙ no_level format u e levels k (λ b. n (sym (kind_is format u e i) ∙ sym (kind_led format u e places leaders f i k l z) ∙ b))

total_sections : (format : Format) (u e levels : List ℕ) (i h : ℕ) → total_read (case_in format [] [] [] e) levels i h ≡ total_read (case_in format u [] [] e) levels i h
unfolding total_read time_total_in time_bid case_in
total_sections format u e levels i h = refl

pub bid_flags : (format : Format) (u e levels totals : List ℕ) (i place x : ℕ) → (events_in format e).kind i ≡ 4 → place ≡ unit_of (case_in format u [] [] e) i
    → HasRow (total_read (case_in format [] [] [] e) levels i) totals → x ≡ mask_in format u e place (get_or levels i 0) 0 totals i
    → x ≡ flag_mask_in (case_in format u [] [] e) levels i
bid_flags format u e levels totals i place x k at r ex =
    mask_is format u e i levels totals place (get_or levels i 0) 0 x at
    (record {
      bid = λ _. (refl, record { each = λ h l. r.each h l ∙ total_sections format u e levels i h });
      capability = λ z. absurd (let b = kind_is format u e i in let o : ⊥ = omega arith in o);
      party = λ n. absurd (n (kind_is format u e i ∙ k));
    }) ex

pub flags_all : (format : Format) (u e places leaders levels masks : List ℕ) → Led format u e places leaders → Flagged format u e leaders levels (events_in format e).count masks
    → Holds (events_in format e).count masks (flag_mask_in (case_in format u [] [] e) levels)
flags_all format u e places leaders levels masks f g i l =
    g.each i l (let le = leader_le (case_in format u [] [] e) i in let t = f.led i l in omega arith)

-- ---- what a leader leaves

module _ (format : Format) (u e places leaders masks : List ℕ) (f : Led format u e places leaders) (i : ℕ) (li : i < (events_in format e).count) (bid : ℕ) where
  pub leads_none : (get_or leaders i 0 ≡ i → ⊥) → LeaderFlagged format u e leaders bid i masks masks
  leads_none n =
      record {
        bids = λ own. absurd (n own);
        members = λ k l _ z.
            absurd (n (f.led i li ∙ (rw (leader_is format u e places leaders f i k l z) at (leader_own (case_in format u [] [] e) k))));
        others = λ k h. refl;
      }

  pub leads_bid : (events_in format e).kind i ≡ 4 → get_or leaders i 0 ≡ i → i < length masks → LeaderFlagged format u e leaders bid i masks (set masks i bid)
  leads_bid b own lm =
      record {
        bids = λ _ _. get_or-set_same masks i bid 0 lm;
        members = λ k l n z. absurd (n b);
        others = λ k h. get_or-set_other masks i k bid 0 (λ z. h (ap (λ (m : ℕ). get_or leaders m 0) z ∙ own));
      }

  pub leads_party : (new : List ℕ) → ((events_in format e).kind i ≡ 4 → ⊥) → PartyFlagged format u e leaders i (events_in format e).count masks new
      → LeaderFlagged format u e leaders bid i masks new
  leads_party new n p = record { bids = λ _ b. absurd (n b); members = λ k l _ z. p.members k l z; others = p.others }

-- ---- G

group_capability_of : (format : Format) (u e : List ℕ) (i : ℕ) → capability_of (units_in format u) (group_of (case_in format u [] [] e) i) ≡ group_capability (case_in format u [] [] e) i
unfolding case_in
group_capability_of format u e i = capability_is (case_in format u [] [] e) i

module _ (format : Format) (u e : List ℕ) (i : ℕ) where
  group_is : (place : ℕ) → place ≡ unit_of (case_in format u [] [] e) i → (units_in format u).group place ≡ group_of (case_in format u [] [] e) i
  unfolding group_of case_in
  group_is place at = ap (units_in format u).group at

  pub capability_none : ((events_in format e).kind i ≡ 1 → ⊥) → 0 ≡ listed_capability (case_in format u [] [] e) i
  unfolding listed_capability
  capability_none n = rw (kind_is format u e i, ne_eqb ((events_in format e).kind i) 1 n)

  pub capability_found : (place x : ℕ) → (events_in format e).kind i ≡ 1 → place ≡ unit_of (case_in format u [] [] e) i
      → x ≡ capability_of (units_in format u) ((units_in format u).group place) → x ≡ listed_capability (case_in format u [] [] e) i
  unfolding listed_capability
  capability_found place x q at ex =
      ex ∙ ap (capability_of (units_in format u)) (group_is place at) ∙ group_capability_of format u e i ∙ rw (kind_is format u e i ∙ q)
