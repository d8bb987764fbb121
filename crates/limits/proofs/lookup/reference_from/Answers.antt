use Prim.Native.Nat.{ℕ, ◌+◌, ◌-◌, ◌/◌}
use mathlib.Core.Path.{◌≡◌, sym, ap}
use native.Mathlib.Nat.{not-suc-le-zero}
use native.Mathlib.Omega.{arith}
use lib.Dec.{ltb}
use Rattle.casefile.specs.Decode.{references_in}
use Rattle.casefile.specs.Lookup.{reference_key}
use Rattle.limits.proofs.SearchLaws.{halve, halve_less}
use Rattle.limits.proofs.lookup.reference_from.Goals as goal

pub loop-lo-init : goal.loop-lo-init
loop-lo-init c =
    record {
      order = omega arith;
      end = omega arith;
      before = λ j l. absurd (not-suc-le-zero l);
      after = λ j g l. absurd (omega arith);
    }

pub loop-lo-smaller : goal.loop-lo-smaller
loop-lo-smaller c =
    let l = c.loop-lo in
    rw (c.choose-hi.ensures, c.choose-lo.ensures)
    (halve_less (reference_key (references_in c.args.format c.args.references.now)) (references_in c.args.format c.args.references.now).count c.args.key l.lo l.hi
    (l.lo + (l.hi - l.lo) / 2) c.requires l.invariant (omega arith) (omega arith) (ltb c.reference_key.result c.args.key))

pub loop-lo-preserved : goal.loop-lo-preserved
loop-lo-preserved c =
    let l = c.loop-lo in
    rw (c.choose-hi.ensures, c.choose-lo.ensures)
    (halve (reference_key (references_in c.args.format c.args.references.now)) (references_in c.args.format c.args.references.now).count c.args.key l.lo l.hi
    (l.lo + (l.hi - l.lo) / 2) c.requires l.invariant (omega arith) (omega arith) _
    (ap (λ (x : ℕ). ltb x c.args.key) (sym c.reference_key.ensures)))

pub returns : goal.returns
returns c =
    let l = c.loop-lo in
    let e : l.hi ≡ l.lo = omega arith in
    rw e at l.invariant
