-- A row of the rows buffer, and the buffer (docs/RULES.md, R).
use Rattle.std.specs.Prelude.{ℕ, ◌*◌, List, ◌++◌, drop}
use Rattle.binary.specs.Bytes.{bytes_of}
use Rattle.binary.specs.Lists.{join_to}
use Rattle.casefile.specs.declared.layout.Format.{Format}
use Rattle.casefile.specs.Layout.{most_hours, row_width}
use Rattle.casefile.specs.Case.{References, Case}
use Rattle.conduct.specs.Flags.{flag_mask}
use Rattle.sanctions.specs.Penalties.{n3, n2, multiplier, penalty}
use Rattle.default_bids.specs.Mitigation.{mitigated_mask, bid_in_force, make_up_of}

-- @32, the bids in force
unfoldable pub bid_bytes : Case → (correct : References) → ℕ → List ℕ
bid_bytes c correct i = join_to most_hours (λ h. bytes_of 4 (bid_in_force c correct i h))

-- flag mask @0, mitigated mask @4, penalty @8, make-up @16, multiplier @24, zero @25, N3 @26, N2 @28, zero @30
unfoldable pub row_of : Case → (correct : References) → ℕ → List ℕ
row_of c correct i =
    bytes_of 4 (flag_mask c i)
    ++ (bytes_of 4 (mitigated_mask c i)
    ++ (bytes_of 8 (penalty c i)
    ++ (bytes_of 8 (make_up_of c correct i)
    ++ (bytes_of 1 (multiplier c i)
    ++ (bytes_of 1 0
    ++ (bytes_of 2 (n3 c i)
    ++ (bytes_of 2 (n2 c i)
    ++ (bytes_of 2 0
    ++ bid_bytes c correct i))))))))

-- the buffer once every row is written; its bytes beyond the last row stay
unfoldable pub rows_of : Format → Case → (correct : References) → (rows : List ℕ) → List ℕ
rows_of format c correct rows = join_to c.events.count (row_of c correct) ++ drop (row_width format * c.events.count) rows
