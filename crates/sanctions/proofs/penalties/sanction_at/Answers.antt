use mathlib.Core.Path.{◌≡◌, sym, ◌∙◌}
use borrow.Author.Tests.{eq-eqb, ne_eqb, eqb-true}
use native.Mathlib.Omega.{arith}
use lib.Dec.{eqb}
use lib.ListN.{get_or}
use Rattle.binary.proofs.Implies.{and_l}
use Rattle.casefile.specs.Decode.{events_in}
use Rattle.casefile.specs.StageRead.{event_at}
use Rattle.sanctions.proofs.TableLaws.{none_given}
use Rattle.sanctions.specs.StageTables.{no_sanction, row_at}
use Rattle.sanctions.proofs.penalties.sanction_at.Goals as goal

pub withheld-requires : goal.withheld-requires
unfolding row_at no_sanction event_at
withheld-requires c =
    let kind : let a = c.args in
    c.event_at-event.result.kind ≡ (events_in a.case.format a.case.events.now).kind a.i = rw c.event_at-event.ensures in (
      c.requires.in_range.0,
      omega arith,
      c.requires.in_range.2,
      c.requires.sound.withheld c.args.i c.requires.in_range.0 (sym kind ∙ c.if-kind-eq1.true),
    )

pub returns-then-kind-eq1 : goal.returns-then-kind-eq1
unfolding row_at no_sanction event_at
returns-then-kind-eq1 c =
    let kind : let a = c.args in
    c.event_at-event.result.kind ≡ (events_in a.case.format a.case.events.now).kind a.i = rw c.event_at-event.ensures in
    rw (eq-eqb _ 1 (sym kind ∙ c.if-kind-eq1.true), c.withheld.ensures)

pub returns-then-kind-eq2 : goal.returns-then-kind-eq2
unfolding row_at no_sanction event_at
returns-then-kind-eq2 c =
    let kind : let a = c.args in
    c.event_at-event.result.kind ≡ (events_in a.case.format a.case.events.now).kind a.i = rw c.event_at-event.ensures in
    rw (
      ne_eqb _ 1 (λ e. c.if-kind-eq1.false (kind ∙ e)),
      eq-eqb _ 2 (sym kind ∙ c.if-kind-eq2.true),
      c.dispatch.ensures,
    )

pub fuel-requires : goal.fuel-requires
unfolding row_at no_sanction event_at
fuel-requires c =
    let kind : let a = c.args in
    c.event_at-event.result.kind ≡ (events_in a.case.format a.case.events.now).kind a.i = rw c.event_at-event.ensures in (
      c.requires.in_range.0,
      c.requires.in_range.1,
      sym kind ∙ eqb-true _ 3 (and_l (eqb c.event_at-event.result.kind 3) (eqb (get_or c.args.leaders.now c.args.i 0) c.args.i) c.if-kind-leaders.true),
      c.requires.sound,
    )

pub returns-then-kind-leaders : goal.returns-then-kind-leaders
unfolding row_at no_sanction event_at
returns-then-kind-leaders c =
    let kind : let a = c.args in
    c.event_at-event.result.kind ≡ (events_in a.case.format a.case.events.now).kind a.i = rw c.event_at-event.ensures in
    rw (
      ne_eqb _ 1 (λ e. c.if-kind-eq1.false (kind ∙ e)),
      ne_eqb _ 2 (λ e. c.if-kind-eq2.false (kind ∙ e)),
      ← kind,
      c.if-kind-leaders.true,
      c.fuel.ensures,
    )

pub returns : goal.returns
unfolding row_at no_sanction event_at
returns c =
    let kind : let a = c.args in
    c.event_at-event.result.kind ≡ (events_in a.case.format a.case.events.now).kind a.i = rw c.event_at-event.ensures in
    rw (
      ne_eqb _ 1 (λ e. c.if-kind-eq1.false (kind ∙ e)),
      ne_eqb _ 2 (λ e. c.if-kind-eq2.false (kind ∙ e)),
      ← kind,
      c.if-kind-leaders.false,
    )
    (none_given c.default.result c.default.ensures)
