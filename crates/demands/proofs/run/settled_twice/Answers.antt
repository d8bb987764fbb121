use Rattle.demands.proofs.Demands.{demand_3}
use Rattle.demands.proofs.run.settled_twice.Goals as goal

pub returns : goal.returns
returns c =
    let runs = c.both_settled.ensures in
    record { run = runs.run; worse_run = runs.worse_run; demand3 = demand_3 _ _ _ _ _ _ _ _ _ runs.run runs.worse_run }
