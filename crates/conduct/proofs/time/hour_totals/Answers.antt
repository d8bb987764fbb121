use Rattle.std.proofs.Common.{rules, ◌≡◌, ◌+◌, ℕ}
use Rattle.binary.specs.Lists.{list_to}
use Rattle.binary.proofs.ListLaws.{list_at}
use Rattle.casefile.specs.Layout.{most_hours}
use Rattle.conduct.specs.StageTime.{cell}
use Rattle.conduct.proofs.time.hour_totals.Goals as goal

pub returns : goal.returns
returns c =
    let total = λ (h : ℕ). cell c.args.increases 0 h + cell c.args.increases 1 h + cell c.args.increases 2 h in
    let e : c.list_to.result ≡ list_to most_hours total = c.list_to.ensures.value total (λ h r l p. search rules) in
    record { each = λ h l. rw e (list_at total _ _ _ l) }
