use Rattle.demands.specs.Demands.{Run}
use Rattle.demands.proofs.Demands.{demand_1, demand_2}
use Rattle.demands.proofs.run.settled_once.Goals as goal

pub returns : goal.returns
returns c =
    let s = c.settle.ensures in
    let a = c.args in
    let run : Run a.file.now a.correction.now a.rows.now c.settle.result _ =
    record { answered = s.value; left = s.rows_after } in
    record { run = run; demand1 = demand_1 _ _ _ _ _ run; demand2 = demand_2 _ _ _ _ _ run }
