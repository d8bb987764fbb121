-- The hours that a conduct test fails in a column are those that it fails in the cells.
use Prim.Native.Nat.{ℕ}
use mathlib.Core.List.{List}
use mathlib.Core.Path.{◌≡◌, refl}
use Rattle.binary.specs.Bounded.{mask_to}
use Rattle.binary.specs.Lists.{list_to}
use Rattle.binary.proofs.ListLaws.{list_at}
use Rattle.binary.proofs.MaskLaws.{mask_same}
use Rattle.casefile.specs.Layout.{most_hours}
use Rattle.hour_masks.specs.declared.bid_hours.Bid.{Bid}
use Rattle.hour_masks.specs.StageColumns.{over}
use Rattle.hour_masks.specs.StageHours.{withheld_hour, dispatch_hour, bid_hour}
use Rattle.hour_masks.proofs.JoinLaws.{none_mask}
use Rattle.conduct.specs.declared.hour_tests.Withheld.{Withheld}
use Rattle.conduct.specs.declared.hour_tests.ConductTest.{ConductTest}
use Rattle.conduct.specs.declared.hour_tests.ConductTest.TheVariants as test
use Rattle.conduct.specs.StageMasks.{amount_of, fails_in, fails_at}

module _ (cells sums : List ℕ) (tight : ℕ) where
  abbrev pub failing : ConductTest → ℕ
  failing t = mask_to most_hours (fails_at t tight cells sums)

  module _ (column : List ℕ) (filled : column ≡ list_to most_hours (amount_of cells)) where
    pub withheld_fails : (t : ConductTest) (w : Withheld) → t ≡ test.Withheld w
        → mask_to most_hours (withheld_hour column sums tight w.capability w.group_capability) ≡ failing t
    unfolding withheld_hour fails_at fails_in
    withheld_fails t w e = rw (e, filled) (mask_same most_hours _ _ (λ h l. rw (list_at (amount_of cells) most_hours h 0 l)))

    pub dispatch_fails : (t : ConductTest) (rate : ℕ) → t ≡ test.Dispatch rate → mask_to most_hours (dispatch_hour column sums tight rate) ≡ failing t
    unfolding dispatch_hour fails_at fails_in
    dispatch_fails t rate e = rw (e, filled) (mask_same most_hours _ _ (λ h l. rw (list_at (amount_of cells) most_hours h 0 l)))

    pub bid_fails : (t : ConductTest) (bid : Bid) → t ≡ test.Bid bid → mask_to most_hours (bid_hour column sums tight bid) ≡ failing t
    unfolding bid_hour fails_at fails_in
    bid_fails t bid e = rw (e, filled) (mask_same most_hours _ _ (λ h l. rw (list_at (amount_of cells) most_hours h 0 l)))

  pub fuel_fails : (t : ConductTest) → t ≡ test.Fuel → mask_to most_hours (over sums 0) ≡ failing t
  unfolding over fails_at fails_in
  fuel_fails t e = rw e

  pub none_fails : (t : ConductTest) → t ≡ test.NoTest → 0 ≡ failing t
  unfolding fails_at fails_in
  none_fails t e = rw e (none_mask most_hours _ (λ h l. refl))
