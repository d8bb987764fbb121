use Prim.Native.Nat.{◌≤◌}
use native.Mathlib.Nat.{le_refl}
use native.Mathlib.Omega.{arith}
use Rattle.casefile.specs.StageRead.{event_at}
use Rattle.sanctions.specs.StageTables.{multiplier_at, party_penalty, fuel_row}
use Rattle.sanctions.proofs.TableLaws.{SmallDay, day_small, after_small}
use Rattle.sanctions.proofs.fuel.fuel.Goals as goal

pub window_start-first-requires : goal.window_start-first-requires
unfolding event_at fuel_row multiplier_at party_penalty
window_start-first-requires c =
    rw c.event_at-event.ensures (c.requires.3.days c.args.i c.requires.0 c.requires.2)

pub prior_here-here-requires : goal.prior_here-here-requires
unfolding event_at fuel_row multiplier_at party_penalty
prior_here-here-requires c = (omega (arith, c.requires.0), omega (arith, c.requires.0, c.requires.1), c.window_start-first.ensures)

pub prior_past-outside-requires : goal.prior_past-outside-requires
unfolding event_at fuel_row multiplier_at party_penalty
prior_past-outside-requires c = c.window_start-first.ensures

pub fuel_penalty-penalty-requires : goal.fuel_penalty-penalty-requires
unfolding event_at fuel_row multiplier_at party_penalty
fuel_penalty-penalty-requires c =
    let small : SmallDay c.party_day-sums.result = rw c.party_day-sums.ensures
    (day_small c.args.case.format c.args.case.events.now c.args.leaders.now _ c.args.i c.requires.2 c.requires.3 _ (le_refl _) c.requires.1) in
    let few : c.multiplier_after-multiplier.result ≤ 3 = rw c.multiplier_after-multiplier.ensures (after_small _) in
    (few, small.gain_small, small.loss_small, rw c.saturating_sub-tcc.ensures (omega arith))

pub returns : goal.returns
unfolding event_at fuel_row multiplier_at party_penalty
returns c =
    rw (
      c.fuel_penalty-penalty.ensures,
      c.saturating_sub-tcc.ensures,
      c.party_day-sums.ensures,
      c.multiplier_after-multiplier.ensures,
      c.prior_past-outside.ensures,
      c.prior_here-here.ensures,
      c.event_at-event.ensures,
    )
