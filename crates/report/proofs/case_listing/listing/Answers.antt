use mathlib.Core.Path.{◌∙◌, sym}
use native.Mathlib.Omega.{arith}
use Rattle.limits.proofs.AcceptedLaws as case
use Rattle.report.proofs.ListingLaws.{counted, short, fine, count, few, rows_long, listed_refusal, listed_settlement, listed_rows_is}
use Rattle.report.proofs.case_listing.listing.Goals as goal

pub returns-then-out-lt42048 : goal.returns-then-out-lt42048
returns-then-out-lt42048 c =
    let a = c.args in
    let s = short a.file.now a.rows.now a.out.now c.if-out-lt42048.true in
    record { value = s.0; out_after = s.1; rows_after = s.2; within_out = counted _ a.out.now (omega arith) }

pub of-requires : goal.of-requires
of-requires c =
    let e = sym c.in-Ok.is ∙ c.settle.ensures.value in
    let within = case.has_section c.args.file.now _ _ (fine c.args.file.now c.args.rows.now _ e) in
    record { units = within 0 (omega arith); references = within 1 (omega arith); past = within 2 (omega arith); events = within 3 (omega arith) }

pub put_settlement-requires : goal.put_settlement-requires
put_settlement-requires c =
    let a = c.args in
    let e = sym c.in-Ok.is ∙ c.settle.ensures.value in (
      omega (arith, count a.file.now a.rows.now _ e _ _ c.of.ensures.format c.of.ensures.events),
      omega (arith, rows_long a.file.now a.rows.now _ e),
      few a.file.now a.rows.now _ e,
      omega arith,
    )

pub returns-in-Err : goal.returns-in-Err
returns-in-Err c =
    let a = c.args in
    let e = sym c.in-Err.is ∙ c.settle.ensures.value in
    let q = c.put_refusal.ensures in
    let l = listed_refusal a.file.now a.rows.now a.out.now c.if-out-lt42048.false _ _ _ _ c.from.ensures e q.0 in
    record { value = l.0; out_after = l.1; rows_after = listed_rows_is a.file.now a.rows.now a.out.now c.if-out-lt42048.false _ c.settle.ensures.rows_after; within_out = counted _ _ (omega (arith, q.1)) }

pub returns-in-Ok : goal.returns-in-Ok
returns-in-Ok c =
    let a = c.args in
    let e = sym c.in-Ok.is ∙ c.settle.ensures.value in
    let q = c.put_settlement.ensures in
    let l =
    listed_settlement a.file.now a.rows.now a.out.now c.if-out-lt42048.false _ _ _ _ _ _ e c.of.ensures.format c.of.ensures.events
    c.settle.ensures.rows_after q.0 in
    record { value = l.0; out_after = l.1; rows_after = listed_rows_is a.file.now a.rows.now a.out.now c.if-out-lt42048.false _ c.settle.ensures.rows_after; within_out = counted _ _ (omega (arith, q.1)) }
