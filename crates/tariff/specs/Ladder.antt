-- The four cases of the ladder as propositions: in range exactly one of them holds (docs/RULES.md, S5; tariff 23.4.3.4).
use Rattle.std.specs.Prelude.{ℕ, ◌≤◌, cond, ◌⊎◌, ◌≡◌, leb}
use Rattle.tariff.specs.Ranges.{fewest_instances, most_instances}
use Rattle.tariff.specs.SanctionRules.{ladder}

-- N3 from 1 to 456 and N2 from 1 to N3
abbrev pub InstancesInRange : (n3 n2 : ℕ) → Type 0
InstancesInRange n3 n2 = (fewest_instances ≤ n2) × (n2 ≤ n3) × (n3 ≤ most_instances)

-- 23.4.3.4.1
abbrev pub FirstInstance : (n3 : ℕ) → Type 0
FirstInstance n3 = n3 ≡ 1

-- 23.4.3.4.2
abbrev pub SecondInstance : (n3 : ℕ) → Type 0
SecondInstance n3 = n3 ≡ 2

-- 23.4.3.4.3
abbrev pub ThirdInstance : (n3 n2 : ℕ) → Type 0
ThirdInstance n3 n2 = (3 ≤ n3) × (n2 ≤ 3)

-- 23.4.3.4.4
abbrev pub FourthInstance : (n2 : ℕ) → Type 0
FourthInstance n2 = 4 ≤ n2

-- one of the four, and none of the others
abbrev pub ExactlyOne : (A B C D : Type 0) → Type 0
ExactlyOne A B C D =
    (A × (¬ B) × (¬ C) × (¬ D))
    ⊎ ((¬ A) × B × (¬ C) × (¬ D))
    ⊎ ((¬ A) × (¬ B) × C × (¬ D))
    ⊎ ((¬ A) × (¬ B) × (¬ C) × D)

abbrev pub OneCase : (n3 n2 : ℕ) → Type 0
OneCase n3 n2 = ExactlyOne (FirstInstance n3) (SecondInstance n3) (ThirdInstance n3 n2) (FourthInstance n2)

-- the first paper's ladder, which asks for the fourth case first; it serves the promise below alone
unfoldable pub fourth_case_first : (n3 n2 : ℕ) → ℕ
fourth_case_first n3 n2 = cond (leb 4 n2) 6 (cond (leb 3 n3) 4 2)

-- exactly one case holds, the ladder gives that case's halves, and so does the first paper's
pub record AsPrinted (n3 n2 : ℕ) : Type 0 where
  pub one : OneCase n3 n2
  pub first : FirstInstance n3 → ladder n3 n2 ≡ 2
  pub second : SecondInstance n3 → ladder n3 n2 ≡ 2
  pub third : ThirdInstance n3 n2 → ladder n3 n2 ≡ 4
  pub fourth : FourthInstance n2 → ladder n3 n2 ≡ 6
  pub same : ladder n3 n2 ≡ fourth_case_first n3 n2

abbrev pub LadderAsPrinted : Type 0
LadderAsPrinted = (n3 n2 : ℕ) → InstancesInRange n3 n2 → AsPrinted n3 n2
