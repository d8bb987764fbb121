-- The fixed percent, step and floor of each component (docs/RULES.md, F4). What a component lacks is 0.
use Rattle.std.specs.Prelude.{ℕ, cond, eqb}
use Rattle.tariff.specs.declared.threshold.Threshold.{Threshold}

abbrev pub threshold : (percent step floor : ℕ) → Threshold
threshold p s f = record { percent = p; step = s; floor = f }

unfoldable pub threshold_of : (component : ℕ) → Threshold
threshold_of component =
    cond (eqb component 0) (threshold 300 10000 2500)
    (cond (eqb component 1) (threshold 300 10000 2500)
    (cond (eqb component 2) (threshold 300 5000 500)
    (cond (eqb component 3) (threshold 200 0 0)
    (cond (eqb component 4) (threshold 0 180 0)
    (cond (eqb component 5) (threshold 0 180 0)
    (cond (eqb component 6) (threshold 0 180 0)
    (cond (eqb component 7) (threshold 100 0 0) (threshold 50 0 0))))))))
