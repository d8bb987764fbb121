-- The mitigated hours of component 1 Day-Ahead are the span of the hits.
use Prim.Native.Nat.{ℕ, zero, suc, ◌+◌, ◌-◌, ◌<◌, max, zero-le}
use mathlib.Core.Bool.{Bool, true, false, cond, not, ◌&&◌}
use mathlib.Core.Path.{◌≡◌, refl, ap₂, ◌∙◌}
use native.Mathlib.Nat.{le_refl}
use borrow.Author.Tests.{eq-eqb, eqb-true, le-ltb, lt-leb, not-false}
use lib.Dec.{eqb, lit<}
use Rattle.binary.specs.Bounded.{first_to, mask_to, bit_of}
use Rattle.binary.proofs.BoundedLaws.{first_same, last_same}
use Rattle.binary.proofs.MaskLaws.{mask_same, bit_past}
use Rattle.tariff.specs.DefaultBidRules.{between, spanned, span_mask}
use Rattle.casefile.specs.Case.{Case}
use Rattle.default_bids.specs.Mitigation.{hit, mitigated, mitigated_mask}

pub mitigated_span : (c : Case) (i : ℕ) → c.events.kind i ≡ 4 → c.events.component i ≡ 1 → c.events.market i ≡ 0
    → mitigated_mask c i ≡ span_mask (c.events.hours i) (hit c i) (c.events.R i)
unfolding mitigated_mask mitigated span_mask
mitigated_span c i k o m =
    mask_same (c.events.hours i) _ _ (λ h l. rw (eq-eqb _ _ k, eq-eqb _ _ o, eq-eqb _ _ m) refl)

-- the span goes by the hits below the day's hours
pub span_same : (n : ℕ) (p q : ℕ → Bool) (R : ℕ) → ((h : ℕ) → h < n → p h ≡ q h) → span_mask n p R ≡ span_mask n q R
unfolding span_mask spanned
span_same n p q R h =
    ap₂ (λ (first last : ℕ). mask_to n (between first (max last (first + R - 1)))) (first_same n p q h) (last_same n p q h)

-- no bit of 0 is set
pub no_bit : (h : ℕ) → bit_of 0 h ≡ false
no_bit h = bit_past 0 0 h (lit< tt) zero-le

pub mask_nothing : (n : ℕ) → mask_to n (λ h. false) ≡ 0
unfolding mask_to
mask_nothing zero = refl
mask_nothing (suc n) = rw (mask_nothing n)

first_nothing : (n : ℕ) → first_to n (λ h. false) ≡ n
unfolding first_to
first_nothing zero = refl
first_nothing (suc n) = rw (first_nothing n, le-ltb n n (le_refl n))

-- without a hit there is no span
span_nothing : (n R : ℕ) → span_mask n (λ h. false) R ≡ 0
unfolding span_mask spanned between
span_nothing n R = mask_same n _ (λ h. false) (λ h l. rw (first_nothing n, lt-leb n h l)) ∙ mask_nothing n

-- a span is worked out where an hour is hit
pub span_hits : (n : ℕ) (s : Bool) (hits R : ℕ) → (s && not (eqb hits 0)) ≡ false → cond s (span_mask n (bit_of hits) R) hits ≡ hits
span_hits n false hits R e = refl
span_hits n true hits R e =
    let z : hits ≡ 0 = eqb-true hits 0 (not-false _ e) in
    rw z (span_same n (bit_of 0) (λ h. false) R (λ h l. no_bit h) ∙ span_nothing n R)
