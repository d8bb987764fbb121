-- Bounds of the make-ups of a case whose events are fine.
use Prim.Native.Nat.{ℕ, ◌+◌, ◌≤◌, ◌<◌, zero-le}
use mathlib.Core.Bool.{true, ◌&&◌}
use mathlib.Core.List.{List}
use mathlib.Core.Path.{◌≡◌}
use native.Mathlib.Omega.{arith}
use lib.Dec.{eqb}
use borrow.Author.Tests.{eqb-true}
use Rattle.casefile.specs.declared.layout.Format.{Format}
use Rattle.binary.specs.Bounded.{sum_to, bit_of}
use Rattle.binary.proofs.BoundedLaws.{product_bound, sum_bound}
use Rattle.binary.proofs.Implies.{T→true, and_left, cond_bound}
use Rattle.binary.proofs.WordLaws.{positive_lt, negative_le}
use Rattle.tariff.specs.DefaultBidRules.{lesser, excess, hour_make_up, make_up}
use Rattle.tariff.specs.SanctionRules.{cents}
use Rattle.tariff.specs.Ranges.{highest_megawatts}
use Rattle.casefile.specs.Layout.{most_hours}
use Rattle.casefile.specs.Decode.{events_in, cells_from, cells_in}
use Rattle.limits.specs.Refusal.{events_fine}
use Rattle.casefile.specs.StageRead.{cell_of}
use Rattle.limits.proofs.SectionLaws.{cell_ranges}
use Rattle.default_bids.specs.StageFigures.{MegawattsFine, tenths_at, make_up_by, highest_excess, highest_tenths, highest_make_up}

excess_bound : (x y : ℕ) → excess x y ≤ highest_excess
unfolding excess
excess_bound x y = omega (arith, positive_lt 32 x, negative_le 32 y (omega arith))

pub tenths_bound : (cells : List ℕ) (k mask h : ℕ) → (cell_of cells h).m ≤ highest_megawatts → tenths_at cells k mask h ≤ highest_tenths
unfolding tenths_at hour_make_up
tenths_bound cells k mask h l =
    cond_bound (bit_of mask h) (λ t. product_bound _ _ highest_megawatts highest_excess l (excess_bound (lesser (cell_of cells h).a k) (cell_of cells h).b)) (λ t. zero-le)

make_up_bound : (r k tenths : ℕ) → make_up r k tenths ≤ tenths + 1
unfolding make_up cents
make_up_bound r k tenths = cond_bound (eqb k r) (λ t. zero-le) (λ t. omega arith)

pub megawatts_fine : (format : Format) (s : List ℕ) (i : ℕ) → events_fine format s ≡ true → i < (events_in format s).count → eqb ((events_in format s).kind i) 4 ≡ true
    → MegawattsFine (cells_from format s i)
unfolding cell_of events_in cells_in
megawatts_fine format s i f l k h b = (cell_ranges format s f i h l b).bid (eqb-true _ 4 k)

pub make_up_most : (format : Format) (s : List ℕ) (i r k mask : ℕ) → events_fine format s ≡ true → i < (events_in format s).count → make_up_by format s i r k mask ≤ highest_make_up
unfolding make_up_by
make_up_most format s i r k mask f l =
    cond_bound (eqb ((events_in format s).kind i) 4 && eqb ((events_in format s).component i) 0)
    (λ t.
    let m = megawatts_fine format s i f l (T→true _ (and_left (eqb ((events_in format s).kind i) 4) (eqb ((events_in format s).component i) 0) t)) in
    let tenths = tenths_at (cells_from format s i) k mask in
    let b = sum_bound most_hours tenths highest_tenths (λ h b. tenths_bound _ k mask h (m h b)) in
    omega (arith, make_up_bound r k (sum_to most_hours tenths)))
    (λ t. zero-le)
