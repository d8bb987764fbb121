use borrow.Author.Tests.{ne_eqb}
use Rattle.std.proofs.Common.{◌≢◌, arith}
use Rattle.tariff.specs.Threshold.{threshold_of}
use Rattle.tariff.proofs.threshold.Threshold.of.Goals as goal

pub returns-in-0 : goal.returns-in-0
unfolding threshold_of
returns-in-0 c = rw c.in-0.is

pub returns-in-1 : goal.returns-in-1
unfolding threshold_of
returns-in-1 c = rw c.in-1.is

pub returns-in-2 : goal.returns-in-2
unfolding threshold_of
returns-in-2 c = rw c.in-2.is

pub returns-in-3 : goal.returns-in-3
unfolding threshold_of
returns-in-3 c = rw c.in-3.is

pub returns-in-4 : goal.returns-in-4
unfolding threshold_of
returns-in-4 c = rw c.in-4.is

pub returns-in-5 : goal.returns-in-5
unfolding threshold_of
returns-in-5 c = rw c.in-5.is

pub returns-in-6 : goal.returns-in-6
unfolding threshold_of
returns-in-6 c = rw c.in-6.is

pub returns-in-7 : goal.returns-in-7
unfolding threshold_of
returns-in-7 c = rw c.in-7.is

pub returns-in_default : goal.returns-in_default
unfolding threshold_of
returns-in_default c =
    let x = c.args.component in
    let n0 : x ≢ 0 = omega arith in
    let n1 : x ≢ 1 = omega arith in
    let n2 : x ≢ 2 = omega arith in
    let n3 : x ≢ 3 = omega arith in
    let n4 : x ≢ 4 = omega arith in
    let n5 : x ≢ 5 = omega arith in
    let n6 : x ≢ 6 = omega arith in
    let n7 : x ≢ 7 = omega arith in
    rw (ne_eqb _ _ n0, ne_eqb _ _ n1, ne_eqb _ _ n2, ne_eqb _ _ n3, ne_eqb _ _ n4, ne_eqb _ _ n5, ne_eqb _ _ n6, ne_eqb _ _ n7)
