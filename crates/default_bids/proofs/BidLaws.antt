-- The bids in force of an event, by one level and one mask.
use Prim.Native.Nat.{ℕ}
use mathlib.Core.Bool.{Bool, true, false, cond, not, ◌&&◌, ◌||◌, true≢false}
use mathlib.Core.List.{List}
use mathlib.Core.Path.{◌≡◌, refl, sym, ap, ◌∙◌}
use borrow.Author.Tests.{eqb-true, ne_eqb, not-false}
use lib.Bits.{bit_and}
use lib.Dec.{eqb}
use lib.ListN.{replicate}
use Rattle.binary.specs.Bounded.{mask_to, bit_of}
use Rattle.binary.specs.Lists.{list_to}
use Rattle.binary.proofs.Implies.{and_l}
use Rattle.binary.proofs.MaskLaws.{mask_same, bit_mask, bit_of_and}
use Rattle.binary.proofs.ListLaws.{list_same}
use Rattle.tariff.specs.DefaultBidRules.{lesser, default_bid, in_force, restores, corrected_bid}
use Rattle.casefile.specs.declared.layout.Format.{Format}
use Rattle.casefile.specs.Layout.{most_hours}
use Rattle.casefile.specs.Decode.{units_in, events_in, amounts_in, cells_from}
use Rattle.casefile.specs.StageRead.{cell_of}
use Rattle.conduct.specs.StageMasks.{bid_of, tight_hours, fails_in, fails_at}
use Rattle.conduct.specs.declared.hour_tests.ConductTest.TheVariants as test
use Rattle.conduct.proofs.HourTestLaws.{tight_bit}
use Rattle.conduct.proofs.SumLaws.{cell_amount, zeros_at}
use Rattle.default_bids.specs.StageFigures.{held_bid, fails_with, bid_by}
use Rattle.default_bids.proofs.SpanLaws.{no_bit}

-- component 8 restores no bid
not_eighth : (k r c : ℕ) → restores k r c ≡ true → eqb k 8 ≡ false
unfolding restores
not_eighth k r c e = ne_eqb k 8 (λ q. go q (and_l (eqb k 1 || eqb k 3) _ e))
  where
    go : k ≡ 8 → (eqb k 1 || eqb k 3) ≡ true → ⊥
    go q h = true≢false (sym h ∙ ap (λ (x : ℕ). eqb x 1 || eqb x 3) q)

both : (m f : Bool) (x a : ℕ) → cond (m && f) x a ≡ cond m (cond f x a) a
both true f x a = refl
both false f x a = refl

-- the bid's conduct test, with c and no time total
pub tested_with : (format : Format) (u s : List ℕ) (place c i : ℕ)
    → mask_to most_hours (fails_at (test.Bid (bid_of (units_in format u) (events_in format s) place c i)) (tight_hours (units_in format u) (events_in format s) place i) (cells_from format s i) (replicate most_hours 0))
    ≡ mask_to most_hours (fails_with format u s place c i)
unfolding fails_at fails_in bid_of tight_hours fails_with
tested_with format u s place c i = mask_same most_hours _ _ (λ h l. rw (cell_amount, zeros_at most_hours h, tight_bit))

-- the bid of hour h, held to a level in the hours of a mask, by its event's component and cells
unfoldable pub held_in : (component : ℕ) (cells : List ℕ) (level held h : ℕ) → ℕ
held_in component cells level held h = in_force component (cell_of cells h).a level (bit_of held h)

pub held_in_is : (format : Format) (s : List ℕ) (i level held : ℕ)
    → list_to most_hours (held_in ((events_in format s).component i) (cells_from format s i) level held) ≡ list_to most_hours (held_bid format s i level held)
unfolding held_in held_bid
held_in_is format s i level held = list_same most_hours _ _ (λ h l. rw cell_amount)

module _ (format : Format) (u s : List ℕ) (place r c mitigated i : ℕ) where
  pub bids_none : eqb ((events_in format s).kind i) 4 ≡ false → replicate most_hours 0 ≡ list_to most_hours (bid_by format u s place r c mitigated i)
  unfolding bid_by list_to
  bids_none n =
      let none : list_to most_hours (λ h. 0) ≡ list_to most_hours (bid_by format u s place r c mitigated i) = list_same most_hours (λ h. 0) (bid_by format u s place r c mitigated i) (λ h l. rw n) in
      none

  -- every mitigated hour is held to r
  pub held_own : eqb ((events_in format s).kind i) 4 ≡ true → (restores ((events_in format s).component i) r c && not (eqb mitigated 0)) ≡ false
      → list_to most_hours (held_bid format s i r mitigated) ≡ list_to most_hours (bid_by format u s place r c mitigated i)
  unfolding held_bid in_force bid_by corrected_bid
  held_own k e =
      list_same most_hours _ _
      (λ h l. rw k (go (restores ((events_in format s).component i) r c) (amounts_in format s i h) h (fails_with format u s place c i h) e))
    where
      go : (b : Bool) (a h : ℕ) (fails : Bool) → (b && not (eqb mitigated 0)) ≡ false
          → cond (bit_of mitigated h) (default_bid ((events_in format s).component i) a r) a
          ≡ cond (bit_of mitigated h) (cond b (cond fails (lesser a c) a) (default_bid ((events_in format s).component i) a r)) a
      go false a h fails e = refl
      go true a h fails e =
          let z : mitigated ≡ 0 = eqb-true _ _ (not-false _ e) in
          let n : bit_of mitigated h ≡ false = ap (λ (x : ℕ). bit_of x h) z ∙ no_bit h in
          rw n

  -- the mitigated hours that fail with c are held to it
  pub held_correct : (failing : ℕ) → eqb ((events_in format s).kind i) 4 ≡ true
      → (restores ((events_in format s).component i) r c && not (eqb mitigated 0)) ≡ true → failing ≡ mask_to most_hours (fails_with format u s place c i)
      → list_to most_hours (held_bid format s i c (bit_and mitigated failing)) ≡ list_to most_hours (bid_by format u s place r c mitigated i)
  unfolding held_bid in_force default_bid bid_by corrected_bid
  held_correct failing k e f =
      list_same most_hours _ _
      (λ h l.
      let t : restores ((events_in format s).component i) r c ≡ true = and_l _ (not (eqb mitigated 0)) e in
      let n : eqb ((events_in format s).component i) 8 ≡ false = not_eighth _ _ _ t in
      rw (bit_of_and mitigated failing h, f, bit_mask most_hours h (fails_with format u s place c i) l, k, t, n) (both (bit_of mitigated h) _ _ _))
