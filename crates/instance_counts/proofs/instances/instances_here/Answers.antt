use Prim.Native.Nat.{ℕ}
use mathlib.Core.List.{List}
use mathlib.Core.Path.{◌≡◌, ap}
use Rattle.binary.proofs.BoundedLaws.{count_same}
use Rattle.casefile.specs.declared.layout.Format.{Format}
use Rattle.casefile.specs.Case.{Events}
use Rattle.casefile.specs.Decode.{events_in}
use Rattle.casefile.proofs.RecordLaws.{first_widths_is, events_by_widths}
use Rattle.instance_counts.specs.StageInstances.{with_impact, instance_at, instance_of, row_counts, instances_here}
use Rattle.instance_counts.proofs.instances.instances_here.Goals as goal

-- the events are those of the widths, and so are their instances
module _ (a b : Format) (events groups masks : List ℕ) (group market period : ℕ) (e : events_in a events ≡ events_in b events) where
  row_same : (k j : ℕ) → row_counts a events groups masks group market period k j ≡ row_counts b events groups masks group market period k j
  unfolding with_impact instance_at instance_of row_counts
  row_same k j =
      rw (
        ap (λ (x : Events). x.kind j) e,
        ap (λ (x : Events). x.impact j) e,
        ap (λ (x : Events). x.market j) e,
        ap (λ (x : Events). x.period j) e,
      )

  here-same : (i : ℕ) → instances_here a events groups masks group market period i ≡ instances_here b events groups masks group market period i
  unfolding instances_here
  here-same i = λ x.
      record {
        n3 = count_same i _ _ (λ j l. row_same 2 j) x;
        n2 = count_same i _ _ (λ j l. row_same 1 j) x;
      }

pub counted_here-requires-2 : goal.counted_here-requires-2
counted_here-requires-2 c =
    rw (events_by_widths _ _ c.args.case.events.now (first_widths_is c.args.case.format c.if-case-eq-SECOND_VERSION.false)) c.requires

pub returns : goal.returns
returns c =
    let s = c.args in
    let e = events_by_widths _ _ s.case.events.now (first_widths_is s.case.format c.if-case-eq-SECOND_VERSION.false) in
    rw (c.counted_here-2.ensures, here-same _ _ s.case.events.now s.groups.now s.masks.now s.group s.market s.period e s.i)
