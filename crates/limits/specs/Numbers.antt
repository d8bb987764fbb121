-- The number of each refusal (docs/RULES.md, L), which C is given, and the answer that a number stands for.
use Rattle.std.specs.Prelude.{ℕ, cond, eqb, Result, Ok, Err}
use Rattle.limits.specs.declared.refusal.Refusal.{Refusal}
use Rattle.limits.specs.declared.refusal.Refusal.TheVariants.{Length, Version, SectionCount, Offsets, SectionSizes, Numbers, Units, References, Correction, Past, EventFields, Days, Periods, EventOrder, UnlistedUnit, AboveCapability, NoReference, RowsTooShort}

abbrev pub refusal_number : Refusal → ℕ
refusal_number Length = 1
refusal_number Version = 2
refusal_number SectionCount = 3
refusal_number Offsets = 4
refusal_number SectionSizes = 5
refusal_number Numbers = 17
refusal_number Units = 6
refusal_number References = 7
refusal_number Correction = 8
refusal_number Past = 9
refusal_number EventFields = 10
refusal_number Days = 18
refusal_number Periods = 19
refusal_number EventOrder = 11
refusal_number UnlistedUnit = 12
refusal_number AboveCapability = 13
refusal_number NoReference = 14
refusal_number RowsTooShort = 15

-- the refusal with a number of the table; the last stands for every number that the table lacks
abbrev pub refusal_of : ℕ → Refusal
refusal_of n =
    cond (eqb n 1) Length
    (cond (eqb n 2) Version
    (cond (eqb n 3) SectionCount
    (cond (eqb n 4) Offsets
    (cond (eqb n 5) SectionSizes
    (cond (eqb n 17) Numbers
    (cond (eqb n 6) Units
    (cond (eqb n 7) References
    (cond (eqb n 8) Correction
    (cond (eqb n 9) Past
    (cond (eqb n 10) EventFields
    (cond (eqb n 18) Days
    (cond (eqb n 19) Periods
    (cond (eqb n 11) EventOrder
    (cond (eqb n 12) UnlistedUnit
    (cond (eqb n 13) AboveCapability
    (cond (eqb n 14) NoReference RowsTooShort))))))))))))))))

-- the number of an answer, 0 where nothing is refused: no two answers of a check have the same
abbrev pub number_in : {A : Type 0} → Result A Refusal → ℕ
number_in (Ok a) = 0
number_in (Err r) = refusal_number r

-- the answer of that number
abbrev pub answered : ℕ → Result (Unit {0}) Refusal
answered n = cond (eqb n 0) (Ok tt) (Err (refusal_of n))
