use Prim.Native.Nat.{ℕ}
use mathlib.Core.Bool.{true}
use mathlib.Core.List.{List}
use mathlib.Core.Path.{◌≡◌, sym, ◌∙◌}
use borrow.Author.Rules.{rules}
use borrow.Author.Tests.{not-false}
use lib.Dec.{eqb}
use native.Mathlib.Omega.{arith}
use lib.ListN.{length}
use Rattle.casefile.specs.Decode.{events_in}
use Rattle.casefile.specs.Lookup.{correct_references}
use Rattle.limits.specs.Refusal.{references_found}
use Rattle.event_check.proofs.CheckedLaws.{levels_start, levels_turn, levels_fail}
use Rattle.event_check.proofs.event_limits.references_found.Goals as goal

-- without a correction the case's own references are the correct ones
own-list : (correction own : List ℕ) → eqb (length correction) 0 ≡ true → correct_references correction own ≡ own
unfolding correct_references
own-list correction own e = rw e

pub loop-i-init : goal.loop-i-init
unfolding references_found
loop-i-init c = (search rules, search rules, levels_start _ _ _ _ _)

pub event_levels-requires : goal.event_levels-requires
unfolding references_found
event_levels-requires c =
    let chosen = c.correct_references-correct.ensures in
    (omega arith, c.requires.0, rw chosen c.requires.1, λ z. chosen ∙ own-list c.args.correction.now c.args.case.references.now (not-false _ z))

pub returns-in_default : goal.returns-in_default
unfolding references_found
returns-in_default c =
    let chosen = rw c.correct_references-correct.ensures at (sym c.in_default.is ∙ c.event_levels.ensures) in
    record {
      value = sym (levels_fail _ _ (events_in c.args.case.format c.args.case.events.now) _ c.loop-i.i (omega arith) chosen);
      levels_found = λ z. cc;
      corrects_found = λ z. cc;
    }

pub loop-i-preserved : goal.loop-i-preserved
unfolding references_found
loop-i-preserved c =
    let l = c.loop-i in (
      search rules,
      search rules,
      levels_turn _ _ _ l.own l.other l.i c.in-Some.found (omega (arith, c.requires.2, l.invariant.0)) (omega (arith, c.requires.2, l.invariant.1)) l.invariant.2
          (rw c.correct_references-correct.ensures at (sym c.in-Some.is ∙ c.event_levels.ensures)),
    )

pub returns : goal.returns
unfolding references_found
returns c =
    let l = c.loop-i in
    let s = c.args in
    let e : l.i ≡ (events_in s.case.format s.case.events.now).count = omega arith in
    let w = rw e at l.invariant.2 in
    record { value = sym w.found; levels_found = λ z. w.levelled; corrects_found = λ z. w.corrected }
