-- What demand 3 compares, and its premise (docs/RULES.md, W).
use Rattle.std.specs.Prelude.{ℕ, ◌+◌, ◌*◌, ◌≤◌, ◌<◌, true, ◌≡◌, pos, ◌≤ℤ◌}
use Rattle.binary.specs.Bounded.{bit_of}
use Rattle.binary.specs.Bytes.{byte_at, u32_at, u64_at}
use Rattle.casefile.specs.declared.layout.Format.{Format}
use Rattle.casefile.specs.Layout.{row_width}
use Rattle.casefile.specs.Case.{Case}
use Rattle.sanctions.specs.Penalties.{party_day_e}
use Rattle.settlement.specs.Settled.{Settled}

-- on every party's fuel day 0 ≤ E
abbrev pub EnergyNotNegative : Case → Type 0
EnergyNotNegative c = (i : ℕ) → i < c.events.count → c.events.kind i ≡ 3 → pos 0 ≤ℤ party_day_e c i

-- row by row no set bit of the flag mask is cleared, and multiplier, penalty and the total of penalties don't fall
pub record NoSmaller (format : Format) (s s' : Settled) : Type 0 where
  pub row_count : s.answer.row_count ≡ s'.answer.row_count
  pub flags : (i h : ℕ) → i < s.answer.row_count
      → bit_of (u32_at s.rows (row_width format * i)) h ≡ true → bit_of (u32_at s'.rows (row_width format * i)) h ≡ true
  pub multipliers : (i : ℕ) → i < s.answer.row_count
      → byte_at s.rows (row_width format * i + 24) ≤ byte_at s'.rows (row_width format * i + 24)
  pub penalties : (i : ℕ) → i < s.answer.row_count
      → u64_at s.rows (row_width format * i + 8) ≤ u64_at s'.rows (row_width format * i + 8)
  pub total : s.answer.penalties ≤ s'.answer.penalties
